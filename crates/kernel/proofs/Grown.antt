-- The pools after one was added keep what a layout owes of them.
use Rattle.std.proofs.Common.{◌≡◌, ℕ, ◌+◌, ◌≤◌, List, Some, Result, ⊎_elim, subst, sym, arith}
use Rattle.std.proofs.ByRecursion.{All-push}
use Rattle.std.proofs.lemmas.Bool.Decides.{nat_tests}
use Rattle.std.proofs.lemmas.List.Sums.{sum_by_push}
use Rattle.terms.proofs.Added.{added_or_not}
use Rattle.terms.specs.Calls.{Follows}
use Rattle.terms.specs.Entries.{added}
use Rattle.terms.specs.declared.table.TableFault.{TableFault}
use Rattle.kernel.specs.Pools.{next_pool, total, Small}
use Rattle.kernel.specs.declared.layout.Pool.{Pool}

pub next_pool_fits : (ps : List Pool) (size count : ℕ) (p : Pool) → next_pool ps size count ≡ Some p → (p.size ≤ 8) × (total ps + p.count ≤ 64)
unfolding next_pool
next_pool_fits ps size count p is = (grind (arith, nat_tests), grind (arith, nat_tests))

module _ {U : Type 0} (ps qs : List Pool) (p : Pool) (r : Result U TableFault) (follows : Follows (added 3 ps (Some p)) r ps qs) where
  pub small_grown : p.size ≤ 8 → Small ps → Small qs
  small_grown size small =
      ⊎_elim (λ e. subst Small (sym e) (All-push (λ (q : Pool). q.size ≤ 8) ps p small size)) (λ e. subst Small (sym e) small) (added_or_not 3 ps qs p r follows)

  pub few_grown : total ps + p.count ≤ 64 → total ps ≤ 64 → total qs ≤ 64
  few_grown more few =
      let P : List Pool → Type 0 = λ l. total l ≤ 64 in
      let longer = sum_by_push (λ (q : Pool). q.count) ps p in
      ⊎_elim (λ e. subst P (sym e) (omega arith)) (λ e. subst P (sym e) few) (added_or_not 3 ps qs p r follows)

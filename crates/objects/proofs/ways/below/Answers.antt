use Rattle.std.proofs.Common.{◌≡◌, ◌≤◌, refl, ℕ, Bool, List, Some, None, length, take, cond, position, unwrap_or, eqb, ltb, ap, ◌∙◌, rules, tests, ⊎_elim, arith}
use Rattle.std.proofs.lemmas.Bool.{cases_lt, lt-ltb, le-ltb}
use Rattle.std.proofs.lemmas.Iterator.{YieldsList-from_slice}
use Rattle.std.proofs.lemmas.Iterator.Search.{position_from_yields_List}
use Rattle.std.proofs.lemmas.List.Sums.{prefix_len-le-length}
use Rattle.std.specs.List.{before_first, position_or_len}
use Rattle.objects.proofs.ways.below.Goals as goal

-- the first place that passes, or the length, ends what stands before it
at_most : (n l : ℕ) → n ≤ l → unwrap_or (cond (ltb n l) (Some n) None) l ≡ n
at_most n l low = ⊎_elim (λ lt. rw (lt-ltb n l lt) refl) (λ le. rw (le-ltb n l le) (omega arith)) (cases_lt n l)

ended : (p : ℕ → Bool) (xs : List ℕ) → take (unwrap_or (position p xs) (length xs)) xs ≡ before_first p xs
ended p xs = ap (λ (n : ℕ). take n xs) (at_most (position_or_len p xs) (length xs) (prefix_len-le-length _ xs))

pub returns : goal.returns
returns c =
    let test : ℕ → Bool = λ state. eqb state c.args.base in
    let xs = c.args.chain.now in
    let at : c.position.result ≡ position test xs = position_from_yields_List test _ _ c.position.result c.position.ensures.ran (YieldsList-from_slice xs cc) (λ x b q k. search (rules, tests)) in
    ap (λ (n : ℕ). take n xs) (c.unwrap_or-end.ensures ∙ ap (λ o. unwrap_or o (length xs)) at) ∙ ended test xs

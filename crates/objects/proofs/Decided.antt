-- The row that decides, and what an object does by it.
use Rattle.std.proofs.Common.{◌≡◌, ℕ, ◌≤◌, true, ◌&&◌, eqb, List, [], ◌∷◌, ◌++◌, length, find, Option, Some, None, sym, refl, ap, ◌∙◌, subst, inl, inr, ⊎_elim}
use Rattle.std.proofs.lemmas.Bool.{and_parts, eqb-true, eq-eqb, or_left}
use Rattle.std.specs.List.{AllByRecursion}
use Rattle.std.proofs.ByRecursion.{All-weaker}
use Rattle.terms.specs.Events.{Content}
use Rattle.objects.specs.Charts.{chain, on_chain, applies, decides, first_word, acts, by_row, chart_rule}
use Rattle.tables.specs.Drawing.{ChartDrawing, lets}
use Rattle.terms.specs.declared.send.Send.{Send}
use Rattle.objects.specs.declared.reaction.Verdict.{Verdict}
use Rattle.objects.specs.Crews.{Reacts}
use Rattle.objects.specs.Finding.{First}
use Rattle.tables.specs.Limits.{ChartWithin, RowWithin, ActionWithin}
use Rattle.objects.specs.Moves.{On, Passed, Carried, Responds, ChartAsDrawn}
use Rattle.tables.specs.declared.chart.Action.{Action}
use Rattle.tables.specs.declared.chart.Action.TheVariants.{Move, Stay, Defer}
use Rattle.tables.specs.declared.chart.Row.{Row}
use Rattle.objects.proofs.Drawn.{chain_top, chain_up, distinct, moved, started, start_declared, on_append}
use Rattle.objects.proofs.Firsts.{told, found_first, found_none, given, given_none}

module _ (rows : List Row) (signal word : ℕ) where
  -- a row that applies in a state stands in it
  stands_in : (s : ℕ) (r : Row) → applies s signal word r ≡ true → r.state ≡ s
  stands_in s r is = eqb-true r.state s (and_parts (eqb r.state s) (eqb r.signal signal && lets r.guard word) is).0

  abbrev first_row : ℕ → Option Row
  first_row s = find (applies s signal word) rows

  passed : (xs : List ℕ) → AllByRecursion (λ s. first_row s ≡ None) xs → AllByRecursion (Passed rows signal word) xs
  passed xs none = All-weaker _ _ (λ s is. found_none (applies s signal word) rows is) xs none

  abbrev Found : List ℕ → Row → Type 0
  Found xs r = (inner : List ℕ) × (outer : List ℕ) × (xs ≡ inner ++ r.state ∷ outer) × AllByRecursion (Passed rows signal word) inner × First (applies r.state signal word) rows r

  found : (xs : List ℕ) (r : Row) → decides rows xs signal word ≡ Some r → Found xs r
  found xs r is =
      let g = given first_row xs r is in
      let first = found_first (applies g.chosen signal word) rows r g.gives in
      let here = stands_in g.chosen r first.passes in
      (g.before, g.after, g.order ∙ ap (λ (s : ℕ). g.before ++ s ∷ g.after) (sym here), passed g.before g.earlier, subst (λ (s : ℕ). First (applies s signal word) rows r) (sym here) first)

  found_nowhere : (xs : List ℕ) → decides rows xs signal word ≡ None → AllByRecursion (Passed rows signal word) xs
  found_nowhere xs is = passed xs (given_none first_row xs is)

all_middle : {X : Type 0} (P : X → Type 0) (xs : List X) (x : X) (ys : List X) → AllByRecursion P (xs ++ x ∷ ys) → P x
all_middle P [] x ys all = all.0
all_middle P (y ∷ xs) x ys all = all_middle P xs x ys all.1

module _ (d : ChartDrawing) (w : ChartWithin d) where
  carried : (current s : ℕ) (a : Action) → current ≤ length d.states → On s (chain d.states current) → ActionWithin (length d.sends) (length d.states) a → Carried d.states d.sends current s a (acts d.states d.sends s a (current ∷ []) current)
  carried current s (Move t send) most active within = (_, _, _, moved (length d.sends) d.states w.states current s t most active within.0, refl)
  carried current s (Stay send) most active within = refl
  carried current s Defer most active within = refl

  by_row_lem : (current : ℕ) (e : Content) (r : Row) → current ≤ length d.states → Found d.rows e.signal (first_word e.words) (chain d.states current) r → Responds d current e (by_row d.states d.sends (Some r) (current ∷ []) current)
  by_row_lem current e r most f =
      let within = all_middle (RowWithin (length d.sends) (length d.states)) f.4.before r f.4.after (subst (AllByRecursion (RowWithin (length d.sends) (length d.states))) f.4.stands w.rows) in
      let self : On r.state (r.state ∷ f.1) = or_left (eqb r.state r.state) (on_chain r.state f.1) (eq-eqb r.state r.state refl) in
      let active = subst (λ l. On r.state l) (sym f.2) (on_append r.state f.0 (r.state ∷ f.1) self) in
      inl (r, record { inner = f.0; outer = f.1; active = f.2; passed = f.3; first = f.4 }, carried current r.state r.action most active within.action)

  responds : (current : ℕ) → current ≤ length d.states → (e : Content) → Responds d current e (chart_rule d (current ∷ []) e)
  responds current most e =
      let word = first_word e.words in
      ⊎_elim
      (λ some. rw some.1 (by_row_lem current e some.0 most (found d.rows e.signal word (chain d.states current) some.0 some.1)))
      (λ none. rw none (inr (found_nowhere d.rows e.signal word (chain d.states current) none, refl)))
      (told (decides d.rows (chain d.states current) e.signal word))

  pub as_drawn : ChartAsDrawn d (chart_rule d)
  as_drawn =
      record {
        top = chain_top d.states;
        up = chain_up (length d.sends) d.states w.states;
        once = distinct (length d.sends) d.states w.states;
        starts = started (length d.sends) d.states w.states;
        stands = start_declared (length d.sends) d.states w.states;
        responds = responds;
      }

-- what the rule answers is what the drawing says
pub responded : (d : ChartDrawing) (s : ℕ) (e : Content) (v : Verdict) (next : List ℕ) (out : List Send) → Reacts 1 1 (chart_rule d) (s ∷ []) e v out next → ChartWithin d → s ≤ length d.states → Responds d s e (record { verdict = v; next = next; sends = out })
responded d s e v next out told within most = subst (Responds d s e) (λ i. record { verdict = sym told.verdict i; next = sym told.state i; sends = sym told.sends i }) ((as_drawn d within).responds s most e)

-- A flat object does what its first row says.
use Rattle.std.proofs.Common.{sym, subst, find, ℕ, List, [], ◌∷◌, refl, inl, inr, ⊎_elim}
use Rattle.terms.specs.Events.{Content}
use Rattle.tables.specs.Drawing.{FlatDrawing}
use Rattle.terms.specs.declared.send.Send.{Send}
use Rattle.objects.specs.declared.reaction.Verdict.{Verdict}
use Rattle.objects.specs.Crews.{Reacts}
use Rattle.objects.specs.Flats.{row_of_state, flat_rule, FlatResponds, FlatAsDrawn}
use Rattle.objects.proofs.Firsts.{told, found_first, found_none}

responds : (d : FlatDrawing) (s : ℕ) (e : Content) → FlatResponds d s e (flat_rule d (s ∷ []) e)
responds d s e =
    let fits = row_of_state s e.signal in
    ⊎_elim (λ some. rw some.1 (inl (some.0, found_first fits d.rows some.0 some.1, refl))) (λ none. rw none (inr (found_none fits d.rows none, refl))) (told (find fits d.rows))

pub flat_as_drawn : (d : FlatDrawing) → FlatAsDrawn d (flat_rule d)
flat_as_drawn d = record { responds = responds d }

-- what the rule answers is what the drawing says
pub responded : (d : FlatDrawing) (s : ℕ) (e : Content) (v : Verdict) (next : List ℕ) (out : List Send) → Reacts 1 1 (flat_rule d) (s ∷ []) e v out next → FlatResponds d s e (record { verdict = v; next = next; sends = out })
responded d s e v next out told = subst (FlatResponds d s e) (λ i. record { verdict = sym told.verdict i; next = sym told.state i; sends = sym told.sends i }) (responds d s e)

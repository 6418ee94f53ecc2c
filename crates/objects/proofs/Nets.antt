-- What a net does with an event, as its rule says it and as a relation.
use Rattle.std.proofs.Common.{◌≡◌, ℕ, Bool, true, false, cond, List, ◌∷◌, ◌++◌, find, is_some, Some, None, Option, sym, subst, refl, ap, ◌∙◌, inl, inr}
use Rattle.std.specs.List.{AllByRecursion}
use Rattle.std.specs.Option.{option_map}
use Rattle.std.proofs.ByRecursion.{All-weaker}
use Rattle.std.proofs.lemmas.Bool.{eqb-true, eqb-false, eq-eqb}
use Rattle.terms.specs.Events.{Content}
use Rattle.terms.specs.declared.send.Send.{Send}
use Rattle.tables.specs.Drawing.{NetDrawing}
use Rattle.tables.specs.declared.net.Transition.{Transition}
use Rattle.objects.specs.declared.reaction.Verdict.{Verdict}
use Rattle.objects.specs.Crews.{Reacts}
use Rattle.objects.specs.Finding.{first_given}
use Rattle.objects.specs.Nets.{fired, of_signal, fires, Blocked, by_transition, net_rule, AllBlocked, NetMoves}
use Rattle.objects.proofs.Firsts.{found_first, found_none, any_found, given, given_none}
use Rattle.objects.proofs.Marks.{blocked, changes, eight}

abbrev paired : Transition → List ℕ → Transition × List ℕ
paired u l = (u, l)

-- what a test and the marks afterwards make of a transition
module _ (u : Transition) where
  marked : (b : Bool) (o : Option (List ℕ)) (t : Transition) (ms : List ℕ) → cond b (option_map (paired u) o) None ≡ Some (t, ms) → (b ≡ true) × (u ≡ t) × (o ≡ Some ms)
  marked true (Some l) t ms is = let e : ◌≡◌ {A = Transition × List ℕ} (u, l) (t, ms) = cc in (refl, ap (λ p. p.0) e, ap (λ p. Some p.1) e)
  marked true None t ms is = absurd (cc)
  marked false o t ms is = absurd (cc)

  unmarked : (b : Bool) (o : Option (List ℕ)) → cond b (option_map (paired u) o) None ≡ None → b ≡ true → o ≡ None
  unmarked b None is passes = refl
  unmarked true (Some l) is passes = absurd (cc)
  unmarked false (Some l) is passes = absurd (cc)

-- a transition fires that has the signal and is enabled
found_fires : (signal : ℕ) (marks ms : List ℕ) (u t : Transition) → fires signal marks u ≡ Some (t, ms) → (u ≡ t) × (u.signal ≡ signal) × (fired marks u ≡ Some ms)
found_fires signal marks ms u t is = let m = marked u (of_signal signal u) (fired marks u) t ms is in (m.1, eqb-true u.signal signal m.0, m.2)

-- one that has the signal and does not fire is blocked
not_fired : (signal : ℕ) (marks : List ℕ) (t : Transition) → fires signal marks t ≡ None → t.signal ≡ signal → Blocked marks t
not_fired signal marks t out of = blocked marks t (unmarked t (of_signal signal t) (fired marks t) out (eq-eqb t.signal signal of))

module _ (ts : List Transition) (sends : List Send) (s : List ℕ) (signal : ℕ) where
  all_blocked : (us : List Transition) → AllByRecursion (λ t. fires signal s t ≡ None) us → AllBlocked signal s us
  all_blocked us none = All-weaker _ _ (λ t out of. not_fired signal s t out of) us none

  moves : (o : Option (Transition × List ℕ)) (p : Option Transition) → first_given (fires signal s) ts ≡ o → find (of_signal signal) ts ≡ p → NetMoves ts sends s signal (by_transition sends o (is_some p) s)
  moves None None out none =
      inl (record { none = All-weaker _ _ (λ t other. eqb-false t.signal signal other) ts (found_none (of_signal signal) ts none); still = record { verdict = refl; next = refl; sends = refl } })
  moves None (Some t) out some =
      let f = found_first (of_signal signal) ts t some in
      inr (inl (record {
        some = record { before = f.before; chosen = t; after = f.after; order = f.stands; named = eqb-true t.signal signal f.passes };
        blocked = all_blocked ts (given_none (fires signal s) ts out);
        still = record { verdict = refl; next = refl; sends = refl };
      }))
  moves (Some (t, ms)) p is some =
      let g = given (fires signal s) ts (t, ms) is in
      let there = found_fires signal s ms g.chosen t g.gives in
      let fired_t : fired s t ≡ Some ms = ap (fired s) (sym there.0) ∙ there.2 in
      inr (inr (record {
        fires = record { before = g.before; chosen = t; after = g.after; order = g.order ∙ ap (λ u. g.before ++ u ∷ g.after) there.0; named = ap (λ u. u.signal) (sym there.0) ∙ there.1 };
        earlier = all_blocked g.before g.earlier;
        verdict = refl;
        places = eight s t ms fired_t;
        changes = changes s t ms fired_t;
        sent = refl;
      }))

pub net_moves : (d : NetDrawing) (s : List ℕ) (e : Content) → NetMoves d.transitions d.sends s e.signal (net_rule d s e)
net_moves d s e = rw (any_found (of_signal e.signal) d.transitions) (moves d.transitions d.sends s e.signal (first_given (fires e.signal s) d.transitions) (find (of_signal e.signal) d.transitions) refl refl)

-- what the rule answers is what the drawing says
pub responded : (d : NetDrawing) (s : List ℕ) (e : Content) (v : Verdict) (next : List ℕ) (out : List Send) → Reacts 1 1 (net_rule d) s e v out next → NetMoves d.transitions d.sends s e.signal (record { verdict = v; next = next; sends = out })
responded d s e v next out told = subst (NetMoves d.transitions d.sends s e.signal) (λ i. record { verdict = sym told.verdict i; next = sym told.state i; sends = sym told.sends i }) (net_moves d s e)

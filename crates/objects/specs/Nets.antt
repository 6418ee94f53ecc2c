-- What a Petri object does: the first transition of the event's signal that is enabled fires.
use Rattle.std.specs.Prelude.{◌≡◌, ℕ, zero, suc, ◌+◌, ◌-◌, ◌<◌, ◌≤◌, Bool, true, false, cond, ◌&&◌, ◌⊎◌, List, [], ◌∷◌, ◌++◌, length, Some, None, Option, ◌==◌, ◌≢◌, nat_le}
use Rattle.std.specs.Option.{unwrap_or, option_map}
use Rattle.std.specs.List.{AllByRecursion, list_any}
use Rattle.terms.specs.Entries.{numbered, values}
use Rattle.terms.specs.Events.{Content}
use Rattle.terms.specs.declared.slots.Slots.{Slots}
use Rattle.terms.specs.declared.send.Send.{Send}
use Rattle.terms.specs.declared.send.Send.TheVariants.{Recall}
use Rattle.objects.specs.Crews.{Response, Rule, passing}
use Rattle.tables.specs.Drawing.{NetDrawing}
use Rattle.tables.specs.declared.net.Transition.{Transition}
use Rattle.objects.specs.Finding.{first_given}
use Rattle.tables.specs.Limits.{From1To}
use Rattle.objects.specs.Sending.{sends_of}
use Rattle.objects.specs.declared.reaction.Verdict.{Verdict}
use Rattle.objects.specs.declared.reaction.Verdict.TheVariants.{Handled, Deferred, Ignored}

-- the marks, takes or gives of a place: 0 for what is no place
abbrev pub at_place : List ℕ → ℕ → ℕ
at_place ns place = unwrap_or (numbered ns place) 0

-- the marks of a place after a take and a give: none if it has less than is taken, or would have more than 255
abbrev pub place_after : ℕ → ℕ → ℕ → Option ℕ
place_after marks take give = cond (nat_le take marks && nat_le (marks - take + give) 255) (Some (marks - take + give)) None

abbrev pub with_place : Option (List ℕ) → Option ℕ → Option (List ℕ)
with_place None m = None
with_place (Some ms) None = None
with_place (Some ms) (Some m) = Some (ms ++ m ∷ [])

-- the marks of the first n places after a transition, if each of them lets it fire
abbrev pub marks_after : ℕ → List ℕ → Transition → Option (List ℕ)
marks_after zero marks t = Some []
marks_after (suc n) marks t = with_place (marks_after n marks t) (place_after (at_place marks (suc n)) (at_place (values t.takes) (suc n)) (at_place (values t.gives) (suc n)))

-- the marks of the eight places after a transition, if it is enabled
unfoldable pub fired : List ℕ → Transition → Option (List ℕ)
fired marks t = marks_after 8 marks t

abbrev pub of_signal : ℕ → Transition → Bool
of_signal signal t = t.signal == signal

-- a transition and the marks after it fired, if it has the signal and is enabled
abbrev pub fires : ℕ → List ℕ → Transition → Option (Transition × List ℕ)
fires signal marks t = cond (of_signal signal t) (option_map (λ ms. (t, ms)) (fired marks t)) None

-- a transition and the marks after it, of the slots that keep them
abbrev pub shown : Transition × Slots ℕ 8 → Transition × List ℕ
shown (t, marks) = (t, values marks)

-- the verdict where no transition is enabled, by whether there is one of the signal
abbrev pub unfired : Bool → Verdict
unfired false = Ignored
unfired true = Deferred

-- by the first transition of the signal that is enabled, with the marks after it, and by whether there is one of the signal
abbrev pub by_transition : List Send → Option (Transition × List ℕ) → Bool → List ℕ → Response
by_transition sends None some s = passing (unfired some) s
by_transition sends (Some (t, ms)) some s = record { verdict = Handled; next = ms; sends = sends_of sends t.send ++ Recall ∷ [] }

abbrev pub net_rule : NetDrawing → Rule
net_rule d s e = by_transition d.sends (first_given (fires e.signal s) d.transitions) (list_any (of_signal e.signal) d.transitions) s

-- a place that a transition changes: it has what is taken, the give comes for the take, and it has at most 255 afterwards
pub record Changes (before take give after : ℕ) : Type 0 where
  pub covered : take ≤ before
  pub balance : after + take ≡ before + give
  pub most : after ≤ 255

-- some place has less than the transition takes, or would have more than 255
pub record Blocked (marks : List ℕ) (t : Transition) : Type 0 where
  pub place : ℕ
  pub within : From1To 8 place
  pub blocked : (at_place marks place < at_place (values t.takes) place) ⊎ (255 + at_place (values t.takes) place < at_place marks place + at_place (values t.gives) place)

-- verdict v, and nothing else
pub record Still (v : Verdict) (s : List ℕ) (r : Response) : Type 0 where
  pub verdict : r.verdict ≡ v
  pub next : r.next ≡ s
  pub sends : r.sends ≡ []

-- each of these that has the signal is blocked
abbrev pub AllBlocked : ℕ → List ℕ → List Transition → Type 0
AllBlocked signal marks ts = AllByRecursion (λ t. t.signal ≡ signal → Blocked marks t) ts

-- no transition has the signal
pub record Ignores (ts : List Transition) (s : List ℕ) (signal : ℕ) (r : Response) : Type 0 where
  pub none : AllByRecursion (λ t. t.signal ≢ signal) ts
  pub still : Still Ignored s r

-- a transition of the signal, behind some and before others
pub record Stands (ts : List Transition) (signal : ℕ) : Type 0 where
  pub before : List Transition
  pub chosen : Transition
  pub after : List Transition
  pub order : ts ≡ before ++ chosen ∷ after
  pub named : chosen.signal ≡ signal

-- some transition has the signal, and each that has it is blocked
pub record Defers (ts : List Transition) (s : List ℕ) (signal : ℕ) (r : Response) : Type 0 where
  pub some : Stands ts signal
  pub blocked : AllBlocked signal s ts
  pub still : Still Deferred s r

-- a transition of the signal fires, and those of the signal before it are blocked
pub record Fires (ts : List Transition) (sends : List Send) (s : List ℕ) (signal : ℕ) (r : Response) : Type 0 where
  pub fires : Stands ts signal
  pub earlier : AllBlocked signal s fires.before
  pub verdict : r.verdict ≡ Handled
  pub places : length r.next ≡ 8
  pub changes : (n : ℕ) → From1To 8 n → Changes (at_place s n) (at_place (values fires.chosen.takes) n) (at_place (values fires.chosen.gives) n) (at_place r.next n)
  pub sent : r.sends ≡ sends_of sends fires.chosen.send ++ Recall ∷ []

abbrev pub NetMoves : List Transition → List Send → List ℕ → ℕ → Response → Type 0
NetMoves ts sends s signal r = Ignores ts s signal r ⊎ (Defers ts s signal r ⊎ Fires ts sends s signal r)

-- whatever the marks and the event, a rule does what the net of a drawing does
abbrev pub NetAsDrawn : NetDrawing → Rule → Type 0
NetAsDrawn d rule = (s : List ℕ) (e : Content) → NetMoves d.transitions d.sends s e.signal (rule s e)

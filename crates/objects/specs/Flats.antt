-- What a flat object does: the first row of its state and the event's signal decides.
use Rattle.std.specs.Prelude.{◌≡◌, ℕ, Bool, ◌&&◌, ◌⊎◌, List, [], ◌∷◌, Some, None, Option, ◌==◌, find}
use Rattle.terms.specs.Events.{Content}
use Rattle.terms.specs.declared.send.Send.{Send}
use Rattle.tables.specs.Drawing.{FlatDrawing}
use Rattle.objects.specs.Finding.{First, NoneOf}
use Rattle.objects.specs.Crews.{Response, Rule, passing}
use Rattle.objects.specs.Sending.{sends_of}
use Rattle.tables.specs.declared.flat.FlatRow.{FlatRow}
use Rattle.tables.specs.declared.flat.FlatAction.{FlatAction}
use Rattle.tables.specs.declared.flat.FlatAction.TheVariants.{Move, Defer}
use Rattle.objects.specs.declared.reaction.Verdict.TheVariants.{Handled, Deferred, Ignored}

-- the state of an object that has one number as its state, 1 where there is none
abbrev pub state_in : List ℕ → ℕ
state_in [] = 1
state_in (s ∷ ss) = s

-- the row is of that state and that signal
abbrev pub row_of_state : ℕ → ℕ → FlatRow → Bool
row_of_state state signal r = r.state == state && r.signal == signal

-- the first row of a state and a signal
abbrev pub first_row : List FlatRow → ℕ → ℕ → Option FlatRow
first_row rows state signal = find (row_of_state state signal) rows

abbrev pub acts : List Send → FlatAction → List ℕ → Response
acts sends (Move next send) s = record { verdict = Handled; next = next ∷ []; sends = sends_of sends send }
acts sends Defer s = passing Deferred s

abbrev pub by_row : List Send → Option FlatRow → List ℕ → Response
by_row sends None s = passing Ignored s
by_row sends (Some r) s = acts sends r.action s

abbrev pub flat_rule : FlatDrawing → Rule
flat_rule d s e = by_row d.sends (first_row d.rows (state_in s) e.signal) s

-- the first row of the state and the signal decides; with none the event is ignored
abbrev pub FlatResponds : FlatDrawing → ℕ → Content → Response → Type 0
FlatResponds d s e response =
    ((r : FlatRow) × First (row_of_state s e.signal) d.rows r × (response ≡ acts d.sends r.action (s ∷ [])))
    ⊎ (NoneOf (row_of_state s e.signal) d.rows × (response ≡ passing Ignored (s ∷ [])))

-- a flat object as it is drawn: its rule responds so in every state and to every event
pub record FlatAsDrawn (d : FlatDrawing) (rule : Rule) : Type 0 where
  pub responds : (s : ℕ) (e : Content) → FlatResponds d s e (rule (s ∷ []) e)

-- What the drawing of a chart means: which row decides, which states a move leaves and enters, and in which order.
use Rattle.std.specs.Prelude.{◌≡◌, ℕ, ◌≤◌, true, false, ◌⊎◌, List, [], ◌∷◌, ◌++◌, reverse, length, Some, None, ◌≢◌}
use Rattle.std.specs.List.{AllByRecursion}
use Rattle.terms.specs.Events.{Content}
use Rattle.terms.specs.declared.send.Send.{Send}
use Rattle.objects.specs.Charts.{chain, on_chain, first_word, applies, initial_of, move_sends, start_in}
use Rattle.objects.specs.Crews.{Response, Rule, passing}
use Rattle.tables.specs.Drawing.{ChartDrawing, parent_of}
use Rattle.objects.specs.Finding.{First, NoneOf}
use Rattle.tables.specs.Limits.{From1To}
use Rattle.objects.specs.Sending.{sends_of}
use Rattle.tables.specs.declared.chart.State.{State}
use Rattle.tables.specs.declared.chart.Row.{Row}
use Rattle.tables.specs.declared.chart.Action.{Action}
use Rattle.tables.specs.declared.chart.Action.TheVariants.{Move, Stay, Defer}
use Rattle.objects.specs.declared.reaction.Verdict.TheVariants.{Handled, Deferred, Ignored}

-- the state is one of them
abbrev pub On : ℕ → List ℕ → Type 0
On s xs = on_chain s xs ≡ true

-- none of them stands twice
abbrev pub Distinct : List ℕ → Type 0
Distinct [] = Unit {0}
Distinct (x ∷ xs) = (on_chain x xs ≡ false) × Distinct xs

-- The base of a move from s to t: the parent for a self-transition; otherwise on both chains, or the top, and every state
-- on both chains is the base or above it.
pub record Base (ss : List State) (s t base : ℕ) : Type 0 where
  pub itself : s ≡ t → base ≡ parent_of ss s
  pub both : (s ≢ t) → (base ≡ 0) ⊎ (On base (chain ss s) × On base (chain ss t))
  pub lowest : (s ≢ t) → (x : ℕ) → On x (chain ss s) → On x (chain ss t) → On x (chain ss base)

-- Initial targets lead from a state to one that has none.
pub data Settles (ss : List State) : ℕ → ℕ → Type 0 where
  rests : (s : ℕ) → initial_of ss s ≡ None → Settles ss s s
  follows : (s t r : ℕ) → initial_of ss s ≡ Some t → Settles ss t r → Settles ss s r

-- A move from s to t. The active states are the chain of the current state. Those left are its innermost ones, each once,
-- in order, up to the base, whose chain stays active. Those entered are, outermost first, all that is then active below
-- the base: afterwards the active states are the chain of the state reached. The target is one of them, and its initial
-- targets lead to the state reached.
pub record Moved (ss : List State) (current s t : ℕ) (exits entries : List ℕ) (reached : ℕ) : Type 0 where
  pub base : ℕ
  pub lies : Base ss s t base
  pub leaves : chain ss current ≡ exits ++ chain ss base
  pub enters : chain ss reached ≡ reverse entries ++ chain ss base
  pub through : On t (chain ss reached)
  pub settles : Settles ss t reached
  pub final : initial_of ss reached ≡ None
  pub declared : From1To (length ss) reached

-- no row of a state applies
abbrev pub Passed : List Row → ℕ → ℕ → ℕ → Type 0
Passed rows signal word s = NoneOf (applies s signal word) rows

-- The row that decides: its state is active, no row of the active states inside that one applies, and it is the first of
-- its state that applies.
pub record Decisive (ss : List State) (rows : List Row) (current signal word : ℕ) (r : Row) : Type 0 where
  pub inner : List ℕ
  pub outer : List ℕ
  pub active : chain ss current ≡ inner ++ r.state ∷ outer
  pub passed : AllByRecursion (Passed rows signal word) inner
  pub first : First (applies r.state signal word) rows r

-- What a row makes of the current state: a move, with the sends of the row, of the exits and of the entries; a send; or
-- nothing, the event being deferred.
abbrev pub Carried : List State → List Send → ℕ → ℕ → Action → Response → Type 0
Carried ss sends current s (Move t send) response =
    (exits : List ℕ) × (entries : List ℕ) × (reached : ℕ) × Moved ss current s t exits entries reached
    × (response ≡ record { verdict = Handled; next = reached ∷ []; sends = move_sends ss sends send exits entries })
Carried ss sends current s (Stay send) response = response ≡ record { verdict = Handled; next = current ∷ []; sends = sends_of sends send }
Carried ss sends current s Defer response = response ≡ passing Deferred (current ∷ [])

-- a row decides, or no row of any active state applies and the event is ignored
abbrev pub Responds : ChartDrawing → ℕ → Content → Response → Type 0
Responds d current e response =
    ((r : Row) × Decisive d.states d.rows current e.signal (first_word e.words) r × Carried d.states d.sends current r.state r.action response)
    ⊎ (AllByRecursion (Passed d.rows e.signal (first_word e.words)) (chain d.states current) × (response ≡ passing Ignored (current ∷ [])))

-- the start: state 1, or where its initial targets lead; 0 where there are no states
abbrev pub Starts : List State → ℕ → Type 0
Starts [] s = s ≡ 0
Starts (x ∷ xs) s = Settles (x ∷ xs) 1 s

-- A chart as it is drawn: chains go up to the top and have no state twice; the object starts as above, in a declared state; and from every
-- declared state (0 where there is none) its rule responds to every event as above.
pub record ChartAsDrawn (d : ChartDrawing) (rule : Rule) : Type 0 where
  pub top : chain d.states 0 ≡ []
  pub up : (s : ℕ) → From1To (length d.states) s → chain d.states s ≡ s ∷ chain d.states (parent_of d.states s)
  pub once : (s : ℕ) → s ≤ length d.states → Distinct (chain d.states s)
  pub starts : Starts d.states (start_in d.states)
  pub stands : start_in d.states ≤ length d.states
  pub responds : (current : ℕ) → current ≤ length d.states → (e : Content) → Responds d current e (rule (current ∷ []) e)

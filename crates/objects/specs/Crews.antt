-- What the objects of a crew do with events.
use Rattle.std.specs.Prelude.{◌≡◌, ℕ, zero, suc, ◌≤◌, cond, List, [], length, ◌≢◌}
use Rattle.terms.specs.Events.{Content}
use Rattle.terms.specs.Ranges.{between}
use Rattle.terms.specs.declared.send.Send.{Send}
use Rattle.objects.specs.declared.reaction.Verdict.{Verdict}
use Rattle.objects.specs.declared.reaction.Verdict.TheVariants.{Handled, Ignored}

-- a verdict, the next state, and the sends in order
pub record Response : Type 0 where
  pub verdict : Verdict
  pub next : List ℕ
  pub sends : List Send

-- a rule turns a state and an event into a response
abbrev pub Rule : Type 0
Rule = List ℕ → Content → Response

-- an event that is not handled leaves the state as it is and sends nothing
abbrev pub Quiet : Rule → Type 0
Quiet rule = (s : List ℕ) (e : Content) → ((rule s e).verdict ≢ Handled) → ((rule s e).next ≡ s) × ((rule s e).sends ≡ [])

abbrev pub Few : Rule → Type 0
Few rule = (s : List ℕ) (e : Content) → length (rule s e).sends ≤ 9

-- a response that handles nothing
abbrev pub passing : Verdict → List ℕ → Response
passing v s = record { verdict = v; next = s; sends = [] }

-- what object o of a crew of n responds: its rule's response, and it ignores everything if there is no such object
abbrev pub response : ℕ → ℕ → Rule → List ℕ → Content → Response
response n o rule s e = cond (between 1 o n) (rule s e) (passing Ignored s)

-- verdict, sends and state are the response
pub record Reacts (n o : ℕ) (rule : Rule) (before : List ℕ) (e : Content) (v : Verdict) (out : List Send) (after : List ℕ) : Type 0 where
  pub verdict : v ≡ (response n o rule before e).verdict
  pub sends : out ≡ (response n o rule before e).sends
  pub state : after ≡ (response n o rule before e).next

-- the states of a crew of one: only object 1 has one
abbrev pub alone : List ℕ → ℕ → List ℕ
alone s zero = []
alone s (suc zero) = s
alone s (suc (suc n)) = []

-- an object's state in front of the states of a crew, which move up by one
abbrev pub states_behind : List ℕ → (ℕ → List ℕ) → ℕ → List ℕ
states_behind front others zero = []
states_behind front others (suc zero) = front
states_behind front others (suc (suc n)) = others (suc n)

-- the rule of what is no object
abbrev pub nobody : Rule
nobody s e = passing Ignored s

abbrev pub rules_behind : Rule → (ℕ → Rule) → ℕ → Rule
rules_behind front others zero = nobody
rules_behind front others (suc zero) = front
rules_behind front others (suc (suc n)) = others (suc n)

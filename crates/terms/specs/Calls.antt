-- What a call owes that either does its work or refuses.
use Rattle.std.specs.Prelude.{◌≡◌, Ok, Err, Result}

-- The rule tells what is there after the call, or the one fault that it answers, which leaves everything as it was.
abbrev pub Follows : {S F U : Type 0} → Result S F → Result U F → S → S → Type 0
Follows rule (Ok _) before after = rule ≡ Ok after
Follows rule (Err f) before after = (rule ≡ Err f) × (after ≡ before)

-- The rule tells what the call's answer means, or its one fault.
abbrev pub Answers : {X Y F : Type 0} → (X → Y) → Result Y F → Result X F → Type 0
Answers means rule (Ok x) = rule ≡ Ok (means x)
Answers means rule (Err f) = rule ≡ Err f

-- Digits, and the one number that they write.
use Rattle.std.proofs.Common.{◌≡◌, ℕ, zero, suc, ◌+◌, ◌*◌, ◌<◌, ◌≤◌, List, Result, None, Some, Ok, Err, OkIff, length, get_or, take, decimal, sym, refl, ap, ◌∙◌, subst, arith}
use Rattle.std.proofs.lemmas.Fmt.{decimal_is_IsNumeral, decimal_digit, decimal_nonempty, decimal-digits_value, digits_decimal, first_decimal}
use Rattle.std.proofs.lemmas.Str.Parse.{IsNumeralModel, numerals_by_value, tells_digits, digit_at, digits_value-take-le}
use Rattle.std.proofs.lemmas.Int.Digits.{digits_more, digits_value_more}
use Rattle.std.proofs.lemmas.Option.{none-some}
use Rattle.std.specs.Char.{digit_value}
use Rattle.std.specs.Result.{result_ok}
use Rattle.std.specs.Str.Parse.{digits_value, AllDigits}

pub own : IsNumeralModel (AllDigits 10) (digits_value 10)
own = numerals_by_value (AllDigits 10) tells_digits

-- the text is not that of a number up to 65535
abbrev pub Unwritten : List ℕ → Type 0
Unwritten ds = (n : ℕ) → n ≤ 65535 → decimal n ≡ ds → ⊥

-- a digit leads, and a zero stands alone
pub record Led (ds : List ℕ) : Type 0 where
  pub some : 0 < length ds
  pub low : 48 ≤ get_or ds 0 0
  pub high : get_or ds 0 0 ≤ 57
  pub alone : get_or ds 0 0 ≡ 48 → length ds ≡ 1

led : (n : ℕ) → n ≤ 65535 → Led (decimal n)
led zero small = subst Led (sym (decimal_digit 0 (omega arith))) (record { some = omega arith; low = omega arith; high = omega arith; alone = λ _. refl })
led (suc n) small =
    let some = decimal_nonempty (suc n) (omega arith) in
    let first = first_decimal (suc n) (omega arith) (omega arith) in
    let digit = digit_at (decimal (suc n)) 0 (digits_decimal own (suc n) (omega arith)) some in
    record { some = some; low = omega arith; high = omega arith; alone = λ led. absurd (omega arith) }

pub decimal_led : (n : ℕ) (ds : List ℕ) → n ≤ 65535 → decimal n ≡ ds → Led ds
decimal_led n ds small is = subst Led is (led n small)

-- a number that was narrowed, or was too large for it
module _ {E : Type 0} (P : Type 0) (n : ℕ) where
  pub narrowed : (r : Result ℕ E) → OkIff r P n → (v : ℕ) → Some v ≡ result_ok r → P × (v ≡ n)
  narrowed (Ok x) fits v is = let same : v ≡ x = cc in (fits.0, same ∙ fits.1)
  narrowed (Err e) none v is = absurd (none-some v (sym is))

  pub too_large : (r : Result ℕ E) → OkIff r P n → None ≡ result_ok r → P → ⊥
  too_large (Ok x) fits is = absurd (none-some x is)
  too_large (Err e) none is = none

-- the value of digits, up to 65535
pub record Counts (ds : List ℕ) (value : ℕ) : Type 0 where
  pub small : value ≤ 65535
  pub all : AllDigits 10 ds
  pub is : value ≡ digits_value 10 ds

module _ (ds : List ℕ) where
  -- the value of digits that are led as a number's are is the number that they write
  pub written_from_counts : Led ds → (value : ℕ) → Counts ds value → (value ≤ 65535) × (decimal value ≡ ds)
  written_from_counts lead value counts =
      (counts.small, ap decimal counts.is ∙ decimal-digits_value own ds counts.all lead.some lead.alone (omega (arith, counts.small, counts.is)))

  module _ (i : ℕ) (under : i < length ds) where
    pub counts_more : (value more : ℕ) → Counts (take i ds) value → digit_value (get_or ds i 0) < 10 → more ≡ value * 10 + digit_value (get_or ds i 0) → more ≤ 65535 → Counts (take (i + 1) ds) more
    counts_more value more counts digit is small =
        record { small = small; all = digits_more 10 ds i under counts.all digit; is = omega (arith, is, counts.is, digits_value_more 10 ds i under) }

    -- a byte that is no digit stands in no number's text
    pub unwritten_from_byte : (digit_value (get_or ds i 0) < 10 → ⊥) → Unwritten ds
    unwritten_from_byte other n small is =
        let digit = digit_at ds i (subst (AllDigits 10) is (digits_decimal own n (omega arith))) under in
        other (grind arith)

    -- nor do digits that write more than 65535
    pub unwritten_from_more : (value : ℕ) → Counts (take i ds) value → 65535 < value * 10 + digit_value (get_or ds i 0) → Unwritten ds
    unwritten_from_more value counts large n small is =
        let whole = sym (ap (digits_value 10) is) ∙ (decimal_is_IsNumeral n (omega arith)).1 in
        omega (arith, whole, counts.is, digits_value_more 10 ds i under, digits_value-take-le 10 ds (i + 1) (omega arith))

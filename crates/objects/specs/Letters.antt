-- The letter by which a verdict is printed.
use Rattle.std.specs.Prelude.{ℕ}
use Rattle.objects.specs.declared.reaction.Verdict.{Verdict}
use Rattle.objects.specs.declared.reaction.Verdict.TheVariants.{Handled, Deferred, Ignored}

-- H, D or I
abbrev pub letter_of : Verdict → ℕ
letter_of Handled = 72
letter_of Deferred = 68
letter_of Ignored = 73

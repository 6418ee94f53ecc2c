-- The law of a scenario file, put together.
use Rattle.std.proofs.Common.{ℕ, List, Ok, sym, subst}
use Rattle.scenario.specs.Cell.{Cell}
use Rattle.scenario.specs.Files.{FileIs, lines_of}
use Rattle.scenario.specs.Law.{Law}
use Rattle.scenario.specs.Limits.{CellWithin}
use Rattle.scenario.specs.Reading.{blank_page}
use Rattle.scenario.proofs.Feeds.{lines_fed, lines_unfed}
use Rattle.scenario.proofs.Limited.{blank_page_within, sound_kept}
use Rattle.scenario.proofs.Once.{file_once}
use Rattle.scenario.proofs.Order.{refused_first, first_refused, accepted_sound, sound_accepted}
use Rattle.scenario.proofs.Total.{file_some}

read_within : (bytes : List ℕ) (c : Cell) → FileIs bytes (Ok c) → CellWithin c
read_within bytes c is =
    let all = accepted_sound bytes c is in
    subst CellWithin (sym all.says) (sound_kept blank_page all.page (lines_of bytes) all.sound blank_page_within).cell

pub lawful : (bytes : List ℕ) → Law bytes
lawful bytes =
    record {
      lines = λ whole. lines_fed bytes whole.ended;
      unbroken = lines_unfed bytes;
      some = file_some bytes;
      one = file_once bytes;
      refused = refused_first bytes;
      faulty = first_refused bytes;
      accepted = accepted_sound bytes;
      sound = sound_accepted bytes;
      limits = read_within bytes;
    }

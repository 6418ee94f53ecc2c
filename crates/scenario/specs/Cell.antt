-- What a scenario file describes: a cell, and what is asked of it.
use Rattle.std.specs.Prelude.{ℕ, List, []}
use Rattle.terms.specs.Events.{Content, content}
use Rattle.kernel.specs.Plan.{Plan, plan, blank}
use Rattle.kernel.specs.declared.discipline.Discipline.{Discipline}
use Rattle.kernel.specs.declared.discipline.Discipline.TheVariants.{Strict}
use Rattle.tables.specs.Drawing.{Drawing, undrawn}
use Rattle.scenario.specs.declared.script.Command.{Command}
use Rattle.scenario.specs.declared.script.Command.TheVariants as command
use Rattle.scenario.specs.declared.setting.Setting.{Setting}

-- what the set-up lines say
pub record Settings : Type 0 where
  pub plan : Plan
  pub discipline : Discipline

abbrev pub setting_of : Setting → Settings
setting_of s = record { plan = plan s.layout; discipline = s.discipline }

-- a cell of three objects, strict
abbrev pub unset : Settings
unset = record { plan = blank 3; discipline = Strict }

-- a line of the script
pub data Order : Type 0 where
  post : ℕ → Content → Order
  post_front : ℕ → Content → Order
  publish : Content → Order
  recycle : Content → Order
  dispatch : ℕ → Order

abbrev pub order : Command → Order
order (command.Post o e) = post o (content e)
order (command.PostFront o e) = post_front o (content e)
order (command.Publish e) = publish (content e)
order (command.Recycle e) = recycle (content e)
order (command.Dispatch n) = dispatch n

pub record Cell : Type 0 where
  pub settings : Settings
  pub drawing : Drawing
  pub script : List Order

abbrev pub empty : Cell
empty = record { settings = unset; drawing = undrawn; script = [] }

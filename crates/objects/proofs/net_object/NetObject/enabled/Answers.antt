use Rattle.std.proofs.Common.{rules, ap, ◌∙◌, None}
use Rattle.std.proofs.iter.runs.Made.{chains}
use Rattle.std.specs.Option.{option_map}
use Rattle.terms.specs.Entries.{values}
use Rattle.tables.specs.Drawing.{blank_transition}
use Rattle.objects.specs.Finding.{first_given}
use Rattle.objects.specs.Nets.{fires, shown}
use Rattle.objects.proofs.Firsts.{found_given, match_mapped}
use Rattle.objects.proofs.net_object.NetObject.enabled.Goals as goal

pub returns : goal.returns
returns c =
    let h = fires c.args.signal (values c.args.self.now.net.marks) in
    found_given h (blank_transition 0 None) c.as_slice.result.now (option_map shown c.find_map.result) (match_mapped shown c.find_map.result _ _ (search (rules, chains))) ∙ ap (first_given h) c.as_slice.ensures

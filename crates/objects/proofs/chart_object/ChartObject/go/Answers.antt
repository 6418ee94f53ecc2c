use Rattle.std.proofs.Common.{length, ap, ◌∙◌, arith}
use Rattle.std.proofs.lemmas.List.{length-append}
use Rattle.terms.specs.Entries.{entries}
use Rattle.terms.proofs.Held.{few_entries}
use Rattle.objects.specs.Charts.{crossings}
use Rattle.tables.specs.declared.chart.Crossing.TheVariants.{Exit}
use Rattle.objects.specs.Walks.{one_send, few_crossings, few_below}
use Rattle.objects.proofs.chart_object.ChartObject.go.Goals as goal

-- the row's send and those of at most four exits leave room for four entries
pub cross-requires-2 : goal.cross-requires-2
cross-requires-2 c =
    let ss = entries c.args.self.now.chart.states in
    let sends = entries c.args.self.now.chart.sends in
    let exits = c.below-2.result.now in
    let long = ap length c.cross.ensures.sends ∙ length-append (entries c.handled-reaction.result.sends) (crossings ss sends Exit exits) in
    let one = one_send sends c.args.send in
    let out = few_crossings ss sends Exit exits in
    let less = few_below c.base_of-base.result c.as_slice-2.result.now in
    omega (arith, ap length c.handled-reaction.ensures.sends, ap length c.below-2.ensures, ap length c.as_slice-2.ensures, ap length c.as_slice-3.ensures, few_entries c.chain-left.result, few_entries c.outermost_first-entered.result)

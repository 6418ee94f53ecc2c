use Rattle.std.proofs.Common.{◌≡◌, ℕ, true, ◌&&◌, List, Some, Ok, leb, arith}
use Rattle.std.proofs.lemmas.Bool.Decides.{nat_tests}
use Rattle.terms.specs.Entries.{values, numbered, replaced}
use Rattle.terms.specs.Ranges.{between}
use Rattle.terms.specs.declared.slots.Slots.{Slots}
use Rattle.terms.proofs.Numbered.{numbered_some, replaced-changed}
use Rattle.terms.proofs.SameSlots.{put_is}
use Rattle.tables.specs.Drawing.{Drawing, set_arc, with_arc, with_transitions}
use Rattle.tables.specs.Tables.{drawing}
use Rattle.tables.specs.declared.net.Transition.{Transition}
use Rattle.tables.proofs.Kept.{arc_kept}
use Rattle.tables.proofs.tables.Tables.set_arc.Goals as goal

-- a declared transition with what it takes and gives replaced
arc_taken : (d : Drawing) (transition place take give : ℕ) (found : Transition) (takes gives : Slots ℕ 8) (after : List Transition)
    → numbered d.transitions transition ≡ Some found → (between 1 place 8 && (leb take 255 && leb give 255)) ≡ true
    → values takes ≡ replaced (values found.takes) place take → values gives ≡ replaced (values found.gives) place give
    → after ≡ replaced d.transitions transition (record found { takes = takes; gives = gives }) → set_arc d transition place take give ≡ Ok (with_transitions d after)
unfolding set_arc
arc_taken d transition place take give found takes gives after is fits taken given new =
    let declared = numbered_some d.transitions transition found is in
    let arc : ◌≡◌ {A = Transition} (record found { takes = takes; gives = gives }) (with_arc place take give found) = λ i. record found { takes = put_is found.takes takes place take taken i; gives = put_is found.gives gives place give given i } in
    let changes = replaced-changed d.transitions transition (with_arc place take give) found is in
    grind (arith, nat_tests)

pub invariant_of-self : goal.invariant_of-self
invariant_of-self c =
    let taken = arc_taken (drawing c.args.self.now) c.args.transition c.args.place c.args.take c.args.give c.in_ok-found.found c.set.new.self c.set-2.new.self _ (grind (arith, nat_tests)) (grind (arith, nat_tests)) c.set.ensures.after c.set-2.ensures.after c.replace.ensures.after in
    record { within = arc_kept _ _ c.args.transition c.args.place c.args.take c.args.give taken c.args.self.now.within }

pub returns : goal.returns
returns c =
    arc_taken (drawing c.args.self.now) c.args.transition c.args.place c.args.take c.args.give c.in_ok-found.found c.set.new.self c.set-2.new.self _ (grind (arith, nat_tests)) (grind (arith, nat_tests)) c.set.ensures.after c.set-2.ensures.after c.replace.ensures.after

-- Every sound line keeps the limits, so that a scenario that is read keeps them.
use Rattle.std.proofs.Common.{◌<◌, ◌≡◌, ℕ, eqb, leb, List, [], ◌∷◌, ◌++◌, length, drop, Some, None, Ok, Err, Option, Result, sym, refl, ap, ◌∙◌, subst, inl, inr, arith}
use Rattle.std.proofs.ByRecursion.{All-push}
use Rattle.std.proofs.lemmas.Bool.{cond_both, leb-true}
use Rattle.std.specs.List.{AllByRecursion}
use Rattle.terms.specs.Events.{Content}
use Rattle.terms.specs.Ranges.{between}
use Rattle.terms.specs.declared.table.TableFault.{TableFault}
use Rattle.terms.proofs.Added.{ok_passed}
use Rattle.terms.proofs.Ranges.{between_bounds}
use Rattle.kernel.specs.Limits.{PlanWithin}
use Rattle.kernel.specs.Plan.{Plan, add_pool, set_lengths, subscribed, discipline_of}
use Rattle.kernel.specs.Pools.{some_holds}
use Rattle.kernel.specs.declared.fault.SetupFault.{SetupFault}
use Rattle.kernel.proofs.Kept.{blank_within, pool_kept, lengths_kept, subscribed_kept, objects_kept_by_pool, objects_kept_by_lengths, objects_kept_by_subscribed}
use Rattle.tables.specs.Drawing.{Drawing, add_send, add_state, set_initial, add_row, add_flat_row, set_marks, add_transition, set_arc}
use Rattle.tables.specs.Limits.{DrawingWithin, From1To}
use Rattle.tables.proofs.Kept.{undrawn_within, send_kept, state_kept, initial_kept, row_kept, flat_row_kept, marks_kept, transition_kept, arc_kept}
use Rattle.scenario.specs.Cell.{Settings, Order, post, post_front, publish, recycle, dispatch}
use Rattle.scenario.specs.Law.{Sound}
use Rattle.scenario.specs.Limits.{CellWithin, EventWithin, OrderWithin}
use Rattle.scenario.specs.Lines.{field, exactly, at_least, by_setup, by_tables, by_script, with_plan, with_discipline, setup_line, table_line, script_line, event_of, object_of, addressed}
use Rattle.scenario.specs.Parts.{rank_of, part_of}
use Rattle.scenario.specs.Reading.{Page, LineIs, in_part, by_settings, by_drawing, by_order, blank_page}
use Rattle.scenario.specs.declared.fault.Cause.{Cause}
use Rattle.scenario.specs.declared.fault.Cause.TheVariants as cause
use Rattle.scenario.specs.declared.fault.LineFault.TheVariants.{Form}
use Rattle.scenario.specs.declared.fault.ScriptFault.{ScriptFault}
use Rattle.scenario.specs.declared.part.Part.{Part}
use Rattle.scenario.specs.declared.part.Part.TheVariants.{Setup, Tables, Script}

by_setup_lem : {X Y : Type 0} (f : X → Y) (r : Result X SetupFault) (y : Y) → by_setup f r ≡ Ok y → (x : X) × (r ≡ Ok x) × (f x ≡ y)
by_setup_lem f (Ok x) y is = let e : f x ≡ y = cc in (x, refl, e)
by_setup_lem f (Err e) y is = let z : ◌≡◌ {A = ℕ} 0 1 = cc in absurd (omega arith)

by_tables_lem : {X : Type 0} (r : Result X TableFault) (x : X) → by_tables r ≡ Ok x → r ≡ Ok x
by_tables_lem (Ok y) x is = let e : y ≡ x = cc in ap Ok e
by_tables_lem (Err e) x is = let z : ◌≡◌ {A = ℕ} 0 1 = cc in absurd (omega arith)

-- the plan keeps its limits and its objects
record Kept (p q : Plan) : Type 0 where
  within : PlanWithin q
  objects : q.objects ≡ p.objects

module _ (s t : Settings) (limits : PlanWithin s.plan) where
  abbrev Keeps : Result Settings Cause → Type 0
  Keeps r = r ≡ Ok t → Kept s.plan t.plan

  -- by a call on the plan that keeps its limits
  planned : (k : ℕ) (ns : List ℕ) (r : Result Plan SetupFault) → ((q : Plan) → r ≡ Ok q → Kept s.plan q) → Keeps (exactly k ns (by_setup (with_plan s) r))
  planned k ns r keeps is =
      let call = by_setup_lem (with_plan s) r t (ok_passed (eqb (length ns) k) (by_setup (with_plan s) r) (cause.Line Form) t is).1 in
      subst (λ (u : Settings). Kept s.plan u.plan) call.2 (keeps call.0 call.1)

  setup_kept : (l : ℕ) (ns : List ℕ) → Keeps (setup_line s l ns)
  setup_kept l ns =
      cond_both (eqb l 80) _ _ Keeps
      (λ _. planned 2 ns (add_pool s.plan (field ns 0) (field ns 1)) (λ q is. record { within = pool_kept s.plan q (field ns 0) (field ns 1) is limits; objects = objects_kept_by_pool s.plan q (field ns 0) (field ns 1) is }))
      (λ _.
      cond_both (eqb l 81) _ _ Keeps
      (λ _. planned 3 ns (set_lengths s.plan (field ns 0) (field ns 1) (field ns 2)) (λ q is. record { within = lengths_kept s.plan q (field ns 0) (field ns 1) (field ns 2) is limits; objects = objects_kept_by_lengths s.plan q (field ns 0) (field ns 1) (field ns 2) is }))
      (λ _.
      cond_both (eqb l 83) _ _ Keeps
      (λ _. planned 2 ns (subscribed s.plan (field ns 0) (field ns 1)) (λ q is. record { within = subscribed_kept s.plan q (field ns 0) (field ns 1) is limits; objects = objects_kept_by_subscribed s.plan q (field ns 0) (field ns 1) is }))
      (λ _.
      cond_both (eqb l 87) _ _ Keeps
      (λ _ is.
      let call = by_setup_lem (with_discipline s) (discipline_of (field ns 0)) t (ok_passed (eqb (length ns) 1) (by_setup (with_discipline s) (discipline_of (field ns 0))) (cause.Line Form) t is).1 in
      subst (λ (u : Settings). Kept s.plan u.plan) call.2 (record { within = limits; objects = refl }))
      (λ _ is. let z : ◌≡◌ {A = ℕ} 0 1 = cc in absurd (omega arith)))))

module _ (d e : Drawing) (limits : DrawingWithin d) where
  abbrev Draws : Result Drawing Cause → Type 0
  Draws r = r ≡ Ok e → DrawingWithin e

  drawn : (k : ℕ) (ns : List ℕ) (r : Result Drawing TableFault) → (r ≡ Ok e → DrawingWithin d → DrawingWithin e) → Draws (exactly k ns (by_tables r))
  drawn k ns r keeps is = keeps (by_tables_lem r e (ok_passed (eqb (length ns) k) (by_tables r) (cause.Line Form) e is).1) limits

  tables_kept : (l : ℕ) (ns : List ℕ) → Draws (table_line d l ns)
  tables_kept l ns =
      cond_both (eqb l 68) _ _ Draws (λ _. drawn 4 ns (add_send d (field ns 0) (field ns 1) (field ns 2) (field ns 3)) (send_kept d e (field ns 0) (field ns 1) (field ns 2) (field ns 3)))
      (λ _. cond_both (eqb l 72) _ _ Draws (λ _. drawn 3 ns (add_state d (field ns 0) (field ns 1) (field ns 2)) (state_kept d e (field ns 0) (field ns 1) (field ns 2)))
      (λ _. cond_both (eqb l 73) _ _ Draws (λ _. drawn 2 ns (set_initial d (field ns 0) (field ns 1)) (initial_kept d e (field ns 0) (field ns 1)))
      (λ _. cond_both (eqb l 82) _ _ Draws (λ _. drawn 7 ns (add_row d (record { state = field ns 0; signal = field ns 1; guard = field ns 2; value = field ns 3; kind = field ns 4; target = field ns 5; send = field ns 6 })) (row_kept d e (record { state = field ns 0; signal = field ns 1; guard = field ns 2; value = field ns 3; kind = field ns 4; target = field ns 5; send = field ns 6 })))
      (λ _. cond_both (eqb l 70) _ _ Draws (λ _. drawn 5 ns (add_flat_row d (field ns 0) (field ns 1) (field ns 2) (field ns 3) (field ns 4)) (flat_row_kept d e (field ns 0) (field ns 1) (field ns 2) (field ns 3) (field ns 4)))
      (λ _. cond_both (eqb l 78) _ _ Draws (λ _. drawn 2 ns (set_marks d (field ns 0) (field ns 1)) (marks_kept d e (field ns 0) (field ns 1)))
      (λ _. cond_both (eqb l 84) _ _ Draws (λ _. drawn 2 ns (add_transition d (field ns 0) (field ns 1)) (transition_kept d e (field ns 0) (field ns 1)))
      (λ _. cond_both (eqb l 65) _ _ Draws (λ _. drawn 4 ns (set_arc d (field ns 0) (field ns 1) (field ns 2) (field ns 3)) (arc_kept d e (field ns 0) (field ns 1) (field ns 2) (field ns 3)))
      (λ _ is. let z : ◌≡◌ {A = ℕ} 0 1 = cc in absurd (omega arith)))))))))

module _ (p : Plan) where
  event_within : (signal : ℕ) (words : List ℕ) (e : Content) → event_of p signal words ≡ Ok e → EventWithin p e
  unfolding event_of
  event_within signal words e is =
      let first = ok_passed (between 1 signal 64) _ _ e is in
      let then = ok_passed (some_holds p.pools (length words)) _ _ e first.1 in
      let same : record { signal = signal; words = words } ≡ e = (let h = then.1 in cc) in
      subst (EventWithin p) same (record { signal = between_bounds 1 signal 64 first.0; words = then.0 })

  object_within : (object o : ℕ) → object_of p object ≡ Ok o → From1To p.objects o
  unfolding object_of
  object_within object o is =
      let test = ok_passed (between 1 object p.objects) _ _ o is in
      let same : object ≡ o = (let h = test.1 in cc) in
      subst (From1To p.objects) same (between_bounds 1 object p.objects test.0)

  module _ (o : Order) where
    abbrev Orders : Result Order Cause → Type 0
    Orders r = r ≡ Ok o → OrderWithin p o

    addressed_within : (make : ℕ → Content → Order) → ((n : ℕ) (e : Content) → From1To p.objects n → EventWithin p e → OrderWithin p (make n e)) → (e : Result Content ScriptFault) (n : Result ℕ ScriptFault) → ((x : Content) → e ≡ Ok x → EventWithin p x) → ((k : ℕ) → n ≡ Ok k → From1To p.objects k) → Orders (addressed make e n)
    addressed_within make keeps (Err f) n event object is = let z : ◌≡◌ {A = ℕ} 0 1 = cc in absurd (omega arith)
    addressed_within make keeps (Ok e) (Err f) event object is = let z : ◌≡◌ {A = ℕ} 0 1 = cc in absurd (omega arith)
    addressed_within make keeps (Ok e) (Ok n) event object is = let same : make n e ≡ o = cc in subst (OrderWithin p) same (keeps n e (object n refl) (event e refl))

    by_script_lem : (make : Content → Order) → ((e : Content) → EventWithin p e → OrderWithin p (make e)) → (e : Result Content ScriptFault) → ((x : Content) → e ≡ Ok x → EventWithin p x) → Orders (by_script make e)
    by_script_lem make keeps (Err f) event is = let z : ◌≡◌ {A = ℕ} 0 1 = cc in absurd (omega arith)
    by_script_lem make keeps (Ok e) event is = let same : make e ≡ o = cc in subst (OrderWithin p) same (keeps e (event e refl))

    at_least_lem : (k : ℕ) (ns : List ℕ) (r : Result Order Cause) → Orders r → Orders (at_least k ns r)
    at_least_lem k ns r keeps is = keeps (ok_passed (leb k (length ns)) r (cause.Line Form) o is).1

    script_within : (l : ℕ) (ns : List ℕ) → Orders (script_line p l ns)
    script_within l ns =
        cond_both (eqb l 112) _ _ Orders (λ _. at_least_lem 2 ns _ (addressed_within post (λ n e a b. (a, b)) (event_of p (field ns 1) (drop 2 ns)) (object_of p (field ns 0)) (event_within (field ns 1) (drop 2 ns)) (object_within (field ns 0))))
        (λ _. cond_both (eqb l 102) _ _ Orders (λ _. at_least_lem 2 ns _ (addressed_within post_front (λ n e a b. (a, b)) (event_of p (field ns 1) (drop 2 ns)) (object_of p (field ns 0)) (event_within (field ns 1) (drop 2 ns)) (object_within (field ns 0))))
        (λ _. cond_both (eqb l 98) _ _ Orders (λ _. at_least_lem 1 ns _ (by_script_lem publish (λ e h. h) (event_of p (field ns 0) (drop 1 ns)) (event_within (field ns 0) (drop 1 ns))))
        (λ _. cond_both (eqb l 114) _ _ Orders (λ _. at_least_lem 1 ns _ (by_script_lem recycle (λ e h. h) (event_of p (field ns 0) (drop 1 ns)) (event_within (field ns 0) (drop 1 ns))))
        (λ _. cond_both (eqb l 103) _ _ Orders (λ _ is. let h = (ok_passed (eqb (length ns) 1) (Ok (dispatch (field ns 0))) (cause.Line Form) o is).1 in let same : dispatch (field ns 0) ≡ o = cc in subst (OrderWithin p) same tt)
        (λ _ is. let z : ◌≡◌ {A = ℕ} 0 1 = cc in absurd (omega arith))))))

-- so far: before the script part there is no script
pub record PageWithin (s : Page) : Type 0 where
  pub cell : CellWithin s.cell
  pub early : rank_of s.part < 3 → s.cell.script ≡ []

pub blank_page_within : PageWithin blank_page
blank_page_within =
    record {
      cell = record { three = refl; plan = blank_within 3 (omega arith); drawing = undrawn_within; script = tt };
      early = λ _. refl;
    }

module _ (s t : Page) (limits : PageWithin s) where
  abbrev Pages : Result Page Cause → Type 0
  Pages r = r ≡ Ok t → PageWithin t

  settings_kept : s.cell.script ≡ [] → (r : Result Settings Cause) → ((u : Settings) → r ≡ Ok u → Kept s.cell.settings.plan u.plan) → Pages (by_settings s.cell r)
  settings_kept none (Err f) keeps is = let z : ◌≡◌ {A = ℕ} 0 1 = cc in absurd (omega arith)
  settings_kept none (Ok u) keeps is =
      let same : record { part = Setup; cell = record { settings = u; drawing = s.cell.drawing; script = s.cell.script } } ≡ t = cc in
      let kept = keeps u refl in
      subst PageWithin same
      (record {
        cell = record { three = kept.objects ∙ limits.cell.three; plan = kept.within; drawing = limits.cell.drawing; script = subst (AllByRecursion (OrderWithin u.plan)) (sym none) tt };
        early = λ _. none;
      })

  drawing_kept : s.cell.script ≡ [] → (r : Result Drawing Cause) → ((e : Drawing) → r ≡ Ok e → DrawingWithin e) → Pages (by_drawing s.cell r)
  drawing_kept none (Err f) keeps is = let z : ◌≡◌ {A = ℕ} 0 1 = cc in absurd (omega arith)
  drawing_kept none (Ok e) keeps is =
      let same : record { part = Tables; cell = record { settings = s.cell.settings; drawing = e; script = s.cell.script } } ≡ t = cc in
      subst PageWithin same
      (record {
        cell = record { three = limits.cell.three; plan = limits.cell.plan; drawing = keeps e refl; script = limits.cell.script };
        early = λ _. none;
      })

  order_kept : (r : Result Order Cause) → ((o : Order) → r ≡ Ok o → OrderWithin s.cell.settings.plan o) → Pages (by_order s.cell r)
  order_kept (Err f) keeps is = let z : ◌≡◌ {A = ℕ} 0 1 = cc in absurd (omega arith)
  order_kept (Ok o) keeps is =
      let same : record { part = Script; cell = record { settings = s.cell.settings; drawing = s.cell.drawing; script = s.cell.script ++ o ∷ [] } } ≡ t = cc in
      subst PageWithin same
      (record {
        cell = record { three = limits.cell.three; plan = limits.cell.plan; drawing = limits.cell.drawing; script = All-push (OrderWithin s.cell.settings.plan) s.cell.script o limits.cell.script (keeps o refl) };
        early = λ late. absurd (omega arith);
      })

  part_kept : (l : ℕ) (ns : List ℕ) (q : Option Part) → Pages (in_part s l ns q)
  part_kept l ns None is = let z : ◌≡◌ {A = ℕ} 0 1 = cc in absurd (omega arith)
  part_kept l ns (Some Setup) is =
      let test = ok_passed (leb (rank_of s.part) 1) _ _ t is in
      settings_kept (limits.early (omega (arith, leb-true (rank_of s.part) 1 test.0))) (setup_line s.cell.settings l ns) (λ u. setup_kept s.cell.settings u limits.cell.plan l ns) test.1
  part_kept l ns (Some Tables) is =
      let test = ok_passed (leb (rank_of s.part) 2) _ _ t is in
      drawing_kept (limits.early (omega (arith, leb-true (rank_of s.part) 2 test.0))) (table_line s.cell.drawing l ns) (λ e. tables_kept s.cell.drawing e limits.cell.drawing l ns) test.1
  part_kept l ns (Some Script) is =
      let test = ok_passed (leb (rank_of s.part) 3) _ _ t is in
      order_kept (script_line s.cell.settings.plan l ns) (λ o. script_within s.cell.settings.plan o l ns) test.1

  pub line_kept : (bytes : List ℕ) → LineIs s bytes (Ok t) → PageWithin t
  line_kept bytes (inl (none, is)) = let z : ◌≡◌ {A = ℕ} 0 1 = cc in absurd (omega arith)
  line_kept bytes (inr (l, ns, spelt, is)) = part_kept l ns (part_of l) (sym is)

pub sound_kept : (s t : Page) (ls : List (List ℕ)) → Sound s ls t → PageWithin s → PageWithin t
sound_kept s t [] same limits = subst PageWithin same limits
sound_kept s t (l ∷ ls) (u, is, sound) limits = sound_kept u t ls sound (line_kept s u limits l is)

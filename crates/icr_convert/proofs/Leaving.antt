-- Forms that are left: blocks, catches, exits, cleanup forms and values that are kept. (This project's own.)
use Rattle.std.proofs.Common.{◌≡◌, ℕ, ◌+◌, Bool, true, false, ◌&&◌, not, List, [], Option, Some, None, sym, ap, subst, ◌∙◌}
use Rattle.std.specs.Prelude.{option_map}
use Rattle.lisp_base.specs.declared.values.Place.{Place}
use Rattle.lisp_base.specs.declared.values.SymId.{SymId}
use Rattle.lisp_base.specs.declared.values.Val.TheVariants.{Sym}
use Rattle.ir_ids.specs.Entries.{map_of}
use Rattle.core_form.specs.Tree as tree
use Rattle.core_form.specs.Tree.{Core}
use Rattle.core_form.specs.Facts.{has_number, lookup}
use Rattle.form_names.specs.declared.parts.TagName.{TagName}
use Rattle.form_names.specs.Names.{tag_text}
use Rattle.icr_graph.specs.declared.nodes.NodeKind.TheVariants as kind
use Rattle.icr_graph.specs.declared.nodes.Extent.{Extent}
use Rattle.icr_graph.specs.declared.nodes.Extent.TheVariants as extent
use Rattle.icr_graph.specs.declared.nodes.Charges.{Charges}
use Rattle.icr_graph.specs.declared.nodes.Leaving.TheVariants as way
use Rattle.icr_graph.specs.Plain.{FlowGraph}
use Rattle.graph_meaning.specs.Reading.{named as at_number}
use Rattle.form_graphs.specs.Spots.{Spot, next, first_of, through, none, Here, Ends}
use Rattle.form_graphs.specs.Standing.{StandsAt}
use Rattle.graph_building.specs.Built.{Built, Beside, Begins, NewNode, NewExit, GoesOn, Opens}
use Rattle.icr_convert.specs.declared.names.Names.{Names}
use Rattle.icr_convert.specs.declared.setting.Setting.{Setting}
use Rattle.icr_convert.specs.Scene.{rank}
use Rattle.icr_convert.specs.Converting.{Placed, Converts, Takes, Leaves, setting_passes, through_charges, cost_alone}
use Rattle.icr_convert.proofs.Growing.{grown_trans, ready_later}
use Rattle.icr_convert.proofs.Steps.{seen, held, in_turn, after_beside, entry_placed, exit_placed, goes_on, begun, take_then, take_below}

-- the setting of a part of a form
abbrev pub part_of : Setting → (tail word : Bool) → ℕ → Setting
part_of st t w n =
    record { tail = t; word = w; cost = n; levels = (through_charges st n).levels; boxing = (through_charges st n).boxing; to = st.to }

-- the setting of a form for its effect
abbrev pub effect_of : ℕ → Setting
effect_of n = record { tail = false; word = true; cost = n; levels = 0; boxing = 0; to = None }

-- an entry whose list of exits is made empty
pub entry_made : {x : Extent} {to : Option ℕ} {pl : Place} {c : Charges} {a b : Built} {n : ℕ} {exits : List ℕ} → exits ≡ [] → NewNode (kind.Entry x exits) to pl c a b n → NewNode (kind.Entry x []) to pl c a b n
entry_made {x} {to} {pl} {c} {a} {b} {n} made node = subst (λ (l : List ℕ). NewNode (kind.Entry x l) to pl c a b n) made node

-- a block, from the spot of its entry on: its body, the end of the extent, and where it goes on
pub extent_closed : {S : FlowGraph → ℕ → Spot → Spot → Type 0} {pl : Place} {entry land : ℕ} {b c d e : Built} → Placed S b c → NewExit way.Close (Some entry) None pl (cost_alone 0) c d → GoesOn land land d e →
    Placed (λ h low p q. (r : Spot) × S h low p r × Here h r (kind.Exit way.Close (Some entry)) None pl 0 none × Ends h (next r) land × (q ≡ first_of land)) b e
extent_closed {S} {pl} {entry} {land} body exit on =
    seen (λ h low p q f. (f.0, f.1, f.2.1.0, subst (λ (z : Spot). Ends h z land) f.2.1.1 f.2.2.0, f.2.2.1)) (in_turn body (in_turn (exit_placed exit) (goes_on on)))

pub block_converts : (st : Setting) (pl : Place) (x : ℕ) (name : SymId) (e : Core) {names : Names} {part : Setting} {v land n entry : ℕ} {a b c d i j : Built} → map_of names.variables.items x ≡ Some v → Beside a b →
    n ≡ st.cost + 1 → NewNode (kind.Entry (extent.Named v land) []) st.to pl (through_charges st n) b c entry → part ≡ part_of st (not (has_number x names.facts.cells) && st.tail) false 0 →
    Converts names part e c d → NewExit way.Close (Some entry) None pl (cost_alone 0) d i → GoesOn land land i j → Converts names st (tree.Block pl x name e) a j
block_converts st pl x name e {names} {part} {v} {land} {n} {entry} {a} {b} {c} {d} variable beside costs node parts form exit on s ready named =
    let here = subst (λ (k : ℕ). NewNode (kind.Entry (extent.Named v land) []) st.to pl (through_charges st k) b c entry) costs node in
    let set : part ≡ part_of st (not (has_number x s.facts.cells) && st.tail) false 0 = parts ∙ ap (λ (k : Bool). part_of st (not k && st.tail) false 0) (ready.knows.cells x) in
    let body = subst (λ (k : Setting). Converts names k e c d) set form s (ready_later ready (grown_trans beside.grown node.grown).later) named in
    seen (λ h low p q f. (
      v,
      f.1.1.0,
      f.1.2.0,
      land,
      f.0,
      f.1.1.1,
      subst (λ (z : Spot). StandsAt h s.facts rank (not (has_number x s.facts.cells) && st.tail) false e 0 (through st.word (setting_passes st)) low st.to z f.1.2.0) f.1.1.2 f.1.2.1,
      (Some entry, f.1.2.2),
      f.1.2.3,
      f.1.2.4,
    ))
    (held (ready.variables x v variable) (after_beside beside (in_turn (entry_placed here) (extent_closed body exit on))))

pub catch_converts : (st : Setting) (pl : Place) (t e : Core) {names : Names} {part : Setting} {land n entry k : ℕ} {a b c d i j m : Built} → n ≡ st.cost + 1 → Takes names false t n a b k → Beside b c →
    NewNode (kind.Entry (extent.Catching k land) []) st.to pl (through_charges st 0) c d entry → part ≡ part_of st false false 0 → Converts names part e d i →
    NewExit way.Close (Some entry) None pl (cost_alone 0) i j → GoesOn land land j m → Converts names st (tree.Catch pl t e) a m
catch_converts st pl t e {names} {part} {land} {n} {entry} {k} {a} {b} {d = d} {i = i} costs takes beside node parts form exit on s ready named =
    let value = subst (λ (n : ℕ). Takes names false t n a b k) costs takes s ready named.0 in
    let body = subst (λ (k : Setting). Converts names k e d i) parts form s (ready_later ready (grown_trans value.placed.grown (grown_trans beside.grown node.grown)).later) named.1 in
    seen (λ h low p q f. (
      k,
      f.4.1.0,
      f.0,
      f.4.2.0,
      land,
      (f.1, f.2),
      f.3,
      f.4.1.1,
      subst (λ (z : Spot). StandsAt h s.facts rank false false e 0 (through st.word (setting_passes st)) low st.to z f.4.2.0) f.4.1.2 f.4.2.1,
      (Some entry, f.4.2.2),
      f.4.2.3,
      f.4.2.4,
    ))
    (take_then value (after_beside beside (in_turn (entry_placed node) (extent_closed body exit on))))

-- ---- exits

-- an entry that opens the variable of a block or tagbody
pub opened_leaves : {names : Names} {x v n : ℕ} (a : Built) → map_of names.variables.items x ≡ Some v → Opens a n v → Leaves names x a n
opened_leaves {x = x} {v = v} a variable opens s ready h later =
    let is = ready.variables x v variable h later in
    (is.0, ap (at_number h.variable) (opens h later) ∙ is.1, is.2)

pub return_converts : (st : Setting) (pl : Place) (x : ℕ) (e : Core) {names : Names} {name : SymId} {n entry k : ℕ} {a b c : Built} → lookup x names.texts.blocks ≡ Some name → n ≡ st.cost + 1 → Takes names false e n a b k →
    Leaves names x b entry → NewExit (way.ReturnFrom name k) (Some entry) None pl (cost_alone 0) b c → Converts names st (tree.ReturnFrom pl x e) a c
return_converts st pl x e {names} {name} {n} {entry} {k} {a} {b} there costs takes leaves exit s ready named =
    let value = subst (λ (n : ℕ). Takes names false e n a b k) costs takes s ready named in
    let looked : lookup x s.facts.blocks ≡ Some (Sym name) = sym (ready.named.blocks x) ∙ ap (option_map Sym) there in
    seen (λ h low p q f. (k, f.0, Some entry, name, (f.1, f.2), f.4.0, looked, f.3, f.4.1.0))
    (take_then value (held (leaves s (ready_later ready value.placed.grown.later)) (exit_placed exit)))

pub go_converts : (st : Setting) (pl : Place) (u : ℕ) {names : Names} {text : TagName} {charges : Charges} {n entry : ℕ} {a b : Built} → lookup u names.texts.tags ≡ Some text → Leaves names text.tagbody a entry → n ≡ st.cost + 1 →
    charges ≡ cost_alone n → NewExit (way.Go u text.name) (Some entry) None pl charges a b → Converts names st (tree.Go pl u) a b
go_converts st pl u {names} {text} {charges} {n} {entry} {a} {b} there leaves costs charged exit s ready named =
    let here = subst (λ (c : Charges). NewExit (way.Go u text.name) (Some entry) None pl c a b) (charged ∙ ap cost_alone costs) exit in
    let looked : lookup u s.facts.names.tags ≡ Some (tag_text text) = sym (ready.named.tags u) ∙ ap (option_map tag_text) there in
    seen (λ h low p q f. (tag_text text, Some entry, looked, f.0, f.1.0)) (held (leaves s ready) (exit_placed here))

pub throw_converts : (st : Setting) (pl : Place) (t e : Core) {names : Names} {n j k : ℕ} {a b c d : Built} → n ≡ st.cost + 1 → Takes names false t n a b j → Takes names false e 0 b c k →
    NewExit (way.Throw j k) None None pl (cost_alone 0) c d → Converts names st (tree.Throw pl t e) a d
throw_converts st pl t e {names} {n} {j} {k} {a} {b} costs tag value exit s ready named =
    let first = subst (λ (n : ℕ). Takes names false t n a b j) costs tag s ready named.0 in
    let second = value s (ready_later ready first.placed.grown.later) named.1 in
    seen (λ h low p q f. (j, k, f.0, f.4.0, None, (f.1, f.2), (f.4.1, f.4.2), f.3, f.4.3, f.4.4.0)) (take_below first (take_then second (exit_placed exit)))

-- ---- cleanup forms, and values that are kept

pub unwind_converts : (st : Setting) (pl : Place) (e f : Core) {names : Names} {part : Setting} {begins n entry k : ℕ} {a b c d i j m o : Built} → Beside a b → n ≡ st.cost + 1 →
    NewNode (kind.Entry (extent.Guarded begins) []) None pl (cost_alone n) b c entry → Takes names false e 0 c d k → NewExit (way.Guard k) (Some entry) None pl (cost_alone 0) d i → Begins begins i j →
    part ≡ effect_of 0 → Converts names part f j m → NewExit way.Resume (Some entry) st.to pl (through_charges st 0) m o → Converts names st (tree.Unwind pl e f) a o
unwind_converts st pl e f {names} {part} {begins} {n} {entry} {k} {a} {b} {c} {d} {i} {j} {m} beside costs node takes guard starts parts form resume s ready named =
    let here = subst (λ (n : ℕ). NewNode (kind.Entry (extent.Guarded begins) []) None pl (cost_alone n) b c entry) costs node in
    let ready_inside = ready_later ready (grown_trans beside.grown node.grown).later in
    let value = takes s ready_inside named.0 in
    let cleanup = subst (λ (k : Setting). Converts names k f j m) parts form s (ready_later ready_inside (grown_trans value.placed.grown (grown_trans guard.grown starts.grown)).later) named.1 in
    seen (λ h low p q u. (
      u.1.0,
      k,
      u.2.0,
      begins,
      u.2.4.2.2.0,
      Some entry,
      u.1.1,
      (u.2.1, u.2.2),
      subst (λ (z : Spot). StandsAt h s.facts rank false false e 0 none low (Some k) z u.2.0) u.1.2 u.2.3,
      (Some entry, u.2.4.1.0),
      subst (λ (z : Spot). StandsAt h s.facts rank false true f 0 none low None z u.2.4.2.2.0) u.2.4.2.1 u.2.4.2.2.1,
      u.2.4.2.2.2.0,
      u.2.4.2.2.2.1,
    ))
    (after_beside beside (in_turn (entry_placed here) (take_then value (in_turn (exit_placed guard) (in_turn (begun starts) (in_turn cleanup (exit_placed resume)))))))

pub values_before_converts : (st : Setting) (pl : Place) (e f : Core) {names : Names} {part : Setting} {n entry k : ℕ} {a b c d i : Built} → n ≡ st.cost + 1 → Takes names false e n a b k →
    NewNode (kind.Entry (extent.Keep k) []) None pl (cost_alone 0) b c entry → part ≡ effect_of 0 → Converts names part f c d → NewExit way.Release (Some entry) st.to pl (through_charges st 0) d i →
    Converts names st (tree.MvProg1 pl e f) a i
values_before_converts st pl e f {names} {part} {n} {entry} {k} {a} {b} {c} {d} costs takes node parts form exit s ready named =
    let value = subst (λ (n : ℕ). Takes names false e n a b k) costs takes s ready named.0 in
    let then = subst (λ (k : Setting). Converts names k f c d) parts form s (ready_later ready (grown_trans value.placed.grown node.grown).later) named.1 in
    seen (λ h low p q u.
    (k, u.4.1.0, u.0, u.4.2.0, Some entry, (u.1, u.2), u.3, u.4.1.1, subst (λ (z : Spot). StandsAt h s.facts rank false true f 0 none low None z u.4.2.0) u.4.1.2 u.4.2.1, u.4.2.2.0, u.4.2.2.1))
    (take_then value (in_turn (entry_placed node) (in_turn then (exit_placed exit))))

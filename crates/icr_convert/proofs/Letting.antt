-- The variables of a LET, and the functions of a LABELS. (This project's own.)
use Rattle.std.proofs.Common.{◌≡◌, ℕ, ◌+◌, ◌-◌, ◌<◌, ◌≤◌, Bool, ◌&&◌, List, [], ◌∷◌, ◌++◌, length, drop, take, get_or, Option, Some, None, refl, sym, ap, subst, ◌∙◌, append_assoc, append-nil, arith}
use Rattle.std.proofs.Math.Seq.{take-length}
use Rattle.std.proofs.lemmas.List.{at_drop_more, at_drop_all}
use Rattle.lisp_base.specs.declared.values.Place.{Place}
use Rattle.lisp_base.specs.declared.values.SymId.{SymId}
use Rattle.ir_ids.specs.Entries.{map_of}
use Rattle.core_form.specs.declared.tree.Binding.{Binding as Binding'}
use Rattle.core_form.specs.declared.tree.Variable.TheVariants.{Lexical, Special}
use Rattle.core_form.specs.Tree as tree
use Rattle.core_form.specs.Tree.{Core, Parameter, Bindings, no_binding, binding, Definitions}
use Rattle.core_form.specs.Reading.{parameter_of, core_of}
use Rattle.core_form.specs.ListReading.{bindings_list}
use Rattle.core_form.specs.Facts.{binding_parameters}
use Rattle.core_form.specs.Step.{all_lexical}
use Rattle.icr_graph.specs.declared.nodes.NodeKind.TheVariants as kind
use Rattle.icr_graph.specs.declared.nodes.Extent.TheVariants as extent
use Rattle.icr_graph.specs.declared.nodes.Leaving.TheVariants as way
use Rattle.icr_graph.specs.declared.nodes.Charges.{Charges}
use Rattle.icr_graph.specs.Plain.{FlowGraph}
use Rattle.form_graphs.specs.Spots.{Unasserted}
use Rattle.form_graphs.specs.Standing.{is_word, left_after_bindings, BindAll}
use Rattle.graph_building.specs.Later.{Later}
use Rattle.graph_building.specs.Built.{Built, graph, NewNode, NewExit}
use Rattle.icr_convert.specs.declared.names.Names.{Names}
use Rattle.icr_convert.specs.declared.setting.Setting.{Setting}
use Rattle.icr_convert.specs.Scene.{rank, Scene, Ready}
use Rattle.icr_convert.specs.Converting.{Converts, Takes, TakesInitials, AllUnasserted, BindsAll, UnbindsAll, Binds, Unbinds, cost_alone, through_charges}
use Rattle.icr_convert.proofs.Growing.{lasts, ready_later}
use Rattle.icr_convert.proofs.Steps.{seen, held, nothing, in_turn, node_placed, entry_placed, exit_placed, take_below}
use Rattle.icr_convert.proofs.Leaving.{part_of}

-- ---- the values for the variables

pub no_initial : {names : Names} (n : ℕ) (a : Built) → TakesInitials names no_binding n a a []
no_initial n a s ready named = record { placed = nothing a (λ h low p. (refl, refl)); free = tt }

pub initial_and : {names : Names} (x : Parameter) (e : Core) (bs : Bindings) (n : ℕ) {w : Bool} {k : ℕ} {ks : List ℕ} {a b c : Built} → ((s : Scene) (g : FlowGraph) → Ready s names g → w ≡ is_word s.facts x.variable) →
    Takes names w e n a b k → TakesInitials names bs 0 b c ks → TakesInitials names (binding x e bs) n a c (k ∷ ks)
initial_and {names} x e bs n {w} {k} {ks} {a} {b} {c} word takes others s ready named =
    let value = subst (λ (w : Bool). Takes names w e n a b k) (word s (graph a) ready) takes s ready named.0 in
    let rest = others s (ready_later ready value.placed.grown.later) named.1 in
    record {
      placed = seen (λ h low p q f. (f.0, f.1, f.3, f.4)) (take_below value rest.placed);
      free = (lasts {P = λ h. Unasserted h k} {g = graph b} {h = graph c} value.lasts rest.placed.grown.later, rest.free);
    }

-- ---- the variables

pub still_unasserted : (ks : List ℕ) {g h : FlowGraph} → AllUnasserted ks g → Later g h → AllUnasserted ks h
still_unasserted [] free later = tt
still_unasserted (k ∷ ks) {g} {h} free later = (lasts {P = λ i. Unasserted i k} {g = g} {h = h} free.0 later, still_unasserted ks free.1 later)

pub lexical_bound : {names : Names} (pl : Place) (x : ℕ) (name : SymId) {v k n : ℕ} {a b : Built} → map_of names.variables.items x ≡ Some v → NewNode (kind.Bind v k) None pl (cost_alone 0) a b n →
    Binds names pl (Lexical x name) k a b
lexical_bound pl x name {v} {k} variable node s ready =
    seen (λ h low p q f. ((v, f.0, f.1.0), f.1.1)) (held (ready.variables x v variable) (node_placed (λ k same. same) node))

pub special_bound : {names : Names} (pl : Place) (x : SymId) {k n : ℕ} {a b : Built} → NewNode (kind.Entry (extent.Special x k) []) None pl (cost_alone 0) a b n → Binds names pl (Special x) k a b
special_bound pl x node s ready = seen (λ h low p q f. ((f.0, f.1), f.2)) (entry_placed node)

pub none_bound : {names : Names} (pl : Place) (a : Built) → BindsAll names pl no_binding [] a a
none_bound pl a s ready free = nothing a (λ h low p. refl)

pub bound_and : {names : Names} (pl : Place) (x : Parameter) (e : Core) (bs : Bindings) {k : ℕ} (ks : List ℕ) {a b c : Built} → Binds names pl x.variable k a b → BindsAll names pl bs ks b c →
    BindsAll names pl (binding x e bs) (k ∷ ks) a c
bound_and pl x e bs {k} ks {a} {b} binds others s ready free =
    let one = binds s ready in
    let rest = others s (ready_later ready one.grown.later) (still_unasserted ks free.1 one.grown.later) in
    seen (λ h low p q f. (f.0, f.1.1.0, subst (λ z. BindAll h s.facts rank pl bs ks z q) f.1.1.1 f.1.2)) (held free.0 (in_turn one rest))

pub lexical_unbound : (pl : Place) (x : ℕ) (name : SymId) (a : Built) → Unbinds pl (Lexical x name) a a
lexical_unbound pl x name a s = nothing a (λ h low p. refl)

pub special_unbound : (pl : Place) (x : SymId) {entry : Option ℕ} {a b : Built} → NewExit way.Close entry None pl (cost_alone 0) a b → Unbinds pl (Special x) a b
special_unbound pl x {entry} exit s = seen (λ h low p q f. ((entry, f.0), f.1)) (exit_placed exit)

pub none_unbound : (pl : Place) (a : Built) → UnbindsAll pl no_binding a a
none_unbound pl a s = nothing a (λ h low p. refl)

pub unbound_and : (pl : Place) (x : Parameter) (e : Core) (bs : Bindings) {a b c : Built} → UnbindsAll pl bs a b → Unbinds pl x.variable b c → UnbindsAll pl (binding x e bs) a c
unbound_and pl x e bs others one s = in_turn (others s) (one s)

-- ---- the same, in loops over the variables

-- the variables from a place on
pub bindings_from : (bs : List Binding') (i : ℕ) (x : Binding') → i < length bs → x ≡ get_or bs i x →
    bindings_list (drop i bs) ≡ binding (parameter_of x.parameter) (core_of x.value) (bindings_list (drop (i + 1) bs))
bindings_from bs i x inside is = at_drop_more bindings_list bs i x inside ∙ ap (λ (y : Binding'). bindings_list (y ∷ drop (i + 1) bs)) (sym is)

pub more_initials : {names : Names} (bs : List Binding') (i : ℕ) (x : Binding') (n m : ℕ) (vs : List ℕ) {w : Bool} {k : ℕ} {ws : List ℕ} {start a b : Built} → i < length bs → x ≡ get_or bs i x →
    ((s : Scene) (g : FlowGraph) → Ready s names g → w ≡ is_word s.facts x.parameter.variable) → Takes names w (core_of x.value) n a b k → ws ≡ vs ++ k ∷ [] →
    ((c : Built) (ks : List ℕ) → TakesInitials names (bindings_list (drop i bs)) n a c ks → TakesInitials names (bindings_list bs) m start c (vs ++ ks)) →
    (c : Built) (ks : List ℕ) → TakesInitials names (bindings_list (drop (i + 1) bs)) 0 b c ks → TakesInitials names (bindings_list bs) m start c (ws ++ ks)
more_initials {names} bs i x n m vs {w} {k} {ws} {start} {a} inside is word takes pushed so_far c ks others =
    let here = subst (λ (l : Bindings). TakesInitials names l n a c (k ∷ ks)) (sym (bindings_from bs i x inside is)) (initial_and (parameter_of x.parameter) (core_of x.value) (bindings_list (drop (i + 1) bs)) n word takes others) in
    subst (λ (l : List ℕ). TakesInitials names (bindings_list bs) m start c l) (sym (ap (λ (l : List ℕ). l ++ ks) pushed ∙ append_assoc vs (k ∷ []) ks)) (so_far c (k ∷ ks) here)

pub all_initials : {names : Names} (bs : List Binding') (i : ℕ) (n m : ℕ) (vs : List ℕ) {start a : Built} → length bs ≤ i →
    ((c : Built) (ks : List ℕ) → TakesInitials names (bindings_list (drop i bs)) n a c ks → TakesInitials names (bindings_list bs) m start c (vs ++ ks)) → TakesInitials names (bindings_list bs) m start a vs
all_initials {names} bs i n m vs {start} {a} over so_far =
    let here = subst (λ (l : Bindings). TakesInitials names l n a a []) (sym (at_drop_all bindings_list bs i over)) (no_initial n a) in
    subst (λ (l : List ℕ). TakesInitials names (bindings_list bs) m start a l) (append-nil vs) (so_far a [] here)

-- the first of a list of continuations, and the others
pub first_and : (ks : List ℕ) (k : ℕ) → 1 ≤ length ks → k ≡ get_or ks 0 k → ks ≡ k ∷ take (length ks - 1) (drop 1 ks)
first_and [] k some is = absurd (omega arith)
first_and (j ∷ ks) k some is =
    let all : take (length (j ∷ ks) - 1) ks ≡ ks = ap (λ (n : ℕ). take n ks) (omega arith) ∙ take-length ks in
    ap (λ (z : ℕ). z ∷ ks) (sym is) ∙ ap (λ (zs : List ℕ). k ∷ zs) (sym all)

pub is_none : (ks : List ℕ) → length ks ≡ 0 → ks ≡ []
is_none [] none = refl
is_none (k ∷ ks) none = absurd (omega arith)

pub more_bound : {names : Names} (pl : Place) (bs : List Binding') (i : ℕ) (x : Binding') (vs : List ℕ) {k : ℕ} {rest others : List ℕ} {start a b : Built} → i < length bs → x ≡ get_or bs i x → rest ≡ k ∷ others →
    Binds names pl x.parameter.variable k a b → ((c : Built) → BindsAll names pl (bindings_list (drop i bs)) rest a c → BindsAll names pl (bindings_list bs) vs start c) →
    (c : Built) → BindsAll names pl (bindings_list (drop (i + 1) bs)) others b c → BindsAll names pl (bindings_list bs) vs start c
more_bound {names} pl bs i x vs {k} {rest} {others} {start} {a} {b} inside is split binds so_far c then =
    let here = subst (λ (l : Bindings). BindsAll names pl l (k ∷ others) a c) (sym (bindings_from bs i x inside is)) (bound_and pl (parameter_of x.parameter) (core_of x.value) (bindings_list (drop (i + 1) bs)) others binds then) in
    so_far c (subst (λ (l : List ℕ). BindsAll names pl (bindings_list (drop i bs)) l a c) (sym split) here)

pub all_bound : {names : Names} (pl : Place) (bs : List Binding') (i : ℕ) (vs rest : List ℕ) {start a : Built} → length bs ≤ i → rest ≡ [] →
    ((c : Built) → BindsAll names pl (bindings_list (drop i bs)) rest a c → BindsAll names pl (bindings_list bs) vs start c) → BindsAll names pl (bindings_list bs) vs start a
all_bound {names} pl bs i vs rest {start} {a} over none so_far =
    let here = subst (λ (l : Bindings). BindsAll names pl l [] a a) (sym (at_drop_all bindings_list bs i over)) (none_bound pl a) in
    so_far a (subst (λ (l : List ℕ). BindsAll names pl (bindings_list (drop i bs)) l a a) (sym none) here)

pub more_unbound : (pl : Place) (bs : List Binding') (i j : ℕ) (x : Binding') {start a b : Built} → i ≡ j + 1 → j < length bs → x ≡ get_or bs j x → UnbindsAll pl (bindings_list (drop i bs)) start a →
    Unbinds pl x.parameter.variable a b → UnbindsAll pl (bindings_list (drop j bs)) start b
more_unbound pl bs i j x {start} {a} {b} above inside is so_far unbinds =
    let others = subst (λ (n : ℕ). UnbindsAll pl (bindings_list (drop n bs)) start a) above so_far in
    subst (λ (l : Bindings). UnbindsAll pl l start b) (sym (bindings_from bs j x inside is)) (unbound_and pl (parameter_of x.parameter) (core_of x.value) (bindings_list (drop (j + 1) bs)) others unbinds)

pub unbound_yet : (pl : Place) (bs : List Binding') (i : ℕ) (a : Built) → length bs ≤ i → UnbindsAll pl (bindings_list (drop i bs)) a a
unbound_yet pl bs i a over = subst (λ (l : Bindings). UnbindsAll pl l a a) (sym (at_drop_all bindings_list bs i over)) (none_unbound pl a)

-- ---- forms

pub left_after_some : (bs : List Binding') (n : ℕ) → 0 < length bs → 0 ≡ left_after_bindings (bindings_list bs) n
left_after_some [] n some = absurd (omega arith)
left_after_some (b ∷ bs) n some = refl

pub let_converts : (st : Setting) (pl : Place) (bs : Bindings) (e : Core) {names : Names} {part : Setting} {n : ℕ} {ks : List ℕ} {a b c d i : Built} → n ≡ st.cost + 1 → TakesInitials names bs n a b ks → BindsAll names pl bs ks b c →
    part ≡ part_of st (all_lexical (binding_parameters bs) && st.tail) st.word (left_after_bindings bs n) → Converts names part e c d → UnbindsAll pl bs d i → Converts names st (tree.Let pl bs e) a i
let_converts st pl bs e {names} {part} {n} {ks} {a} {b} {c} {d} costs initials binds parts form unbinds s ready named =
    let values = subst (λ (n : ℕ). TakesInitials names bs n a b ks) costs initials s ready named.0 in
    let ready_then = ready_later ready values.placed.grown.later in
    let bound = binds s ready_then values.free in
    let set : part ≡ part_of st (all_lexical (binding_parameters bs) && st.tail) st.word (left_after_bindings bs (st.cost + 1)) = parts ∙ ap (λ (n : ℕ). part_of st (all_lexical (binding_parameters bs) && st.tail) st.word (left_after_bindings bs n)) costs in
    let body = subst (λ (k : Setting). Converts names k e c d) set form s (ready_later ready_then bound.grown.later) named.1 in
    seen (λ h low p q f. (ks, f.0, f.2.0, f.2.2.0, f.1, f.2.1, f.2.2.1, f.2.2.2)) (in_turn values.placed (in_turn bound (in_turn body (unbinds s))))

pub labels_converts : (st : Setting) (pl : Place) (ds : Definitions) (e : Core) {names : Names} {charges : Charges} {n : ℕ} {a b : Built} → n ≡ st.cost + 1 → charges ≡ through_charges st n →
    Converts names (record { tail = st.tail; word = st.word; cost = n; levels = charges.levels; boxing = charges.boxing; to = st.to }) e a b → Converts names st (tree.Labels pl ds e) a b
labels_converts st pl ds e {names} {n = n} {a = a} {b = b} costs charged form =
    let here = subst (λ (c : Charges). Converts names (record { tail = st.tail; word = st.word; cost = n; levels = c.levels; boxing = c.boxing; to = st.to }) e a b) charged form in
    subst (λ (n : ℕ). Converts names (part_of st st.tail st.word n) e a b) costs here

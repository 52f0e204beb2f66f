-- Choices, and forms one after another. (This project's own.)
use Rattle.std.proofs.Common.{◌≡◌, ◌<◌, ◌≤◌, ℕ, ◌+◌, Bool, true, false, List, [], ◌∷◌, ◌++◌, length, get_or, drop, Option, None, refl, sym, ap, subst, ◌∙◌, take, arith, zero, suc, ◌-◌}
use Rattle.std.specs.Prelude.{◌==◌}
use Rattle.std.proofs.lemmas.List.{take_all, take_more, get_or-take, length-take}
use Rattle.std.proofs.lemmas.List.{at_drop_more, at_drop_all}
use Rattle.lisp_base.specs.declared.values.Place.{Place}
use Rattle.core_form.specs.declared.tree.Core.{Core as Core'}
use Rattle.core_form.specs.Tree as tree
use Rattle.core_form.specs.Tree.{Core, Cores, no_core, core}
use Rattle.core_form.specs.Reading.{core_of, cores_list}
use Rattle.core_form.specs.Facts.{FunctionText, Facts}
use Rattle.icr_graph.specs.declared.nodes.NodeKind.TheVariants as kind
use Rattle.icr_graph.specs.declared.nodes.Charges.{Charges}
use Rattle.icr_graph.specs.Plain.{FlowGraph}
use Rattle.form_graphs.specs.Spots.{Spot, Passes, none, through, Unasserted}
use Rattle.form_graphs.specs.Standing.{StandsAt, AllStandAt}
use Rattle.graph_building.specs.Built.{Built, Beside, NewNode, GoesOn, ForksTo}
use Rattle.icr_convert.specs.declared.names.Names.{Names}
use Rattle.icr_convert.specs.declared.setting.Setting.{Setting}
use Rattle.icr_convert.specs.Scene.{rank, texts}
use Rattle.icr_convert.specs.Naming.{Named, AllNamed}
use Rattle.icr_convert.specs.Converting.{cost_alone, through_charges, setting_passes, Converts, ConvertsAll, Taken, ValueStands, Takes, cores_and, GoesBefore, GivesNil}
use Rattle.icr_convert.proofs.Growing.{grown_trans, ready_later}
use Rattle.icr_convert.proofs.Steps.{seen, nothing, in_turn, node_placed, goes_on, forked, take_then}

-- ---- choices

-- the setting of what a choice chooses
abbrev pub arm_of : Setting → Setting
arm_of st = record { tail = st.tail; word = false; cost = 0; levels = (through_charges st 0).levels; boxing = (through_charges st 0).boxing; to = st.to }

pub choice : (names : Names) (st arm other : Setting) (pl : Place) (e x y : Core) (cost : ℕ) {k n yes_block no_block join : ℕ} {a b c d f g h i j : Built} → cost ≡ st.cost + 1 → arm ≡ arm_of st → other ≡ arm_of st →
    Takes names false e cost a b k → NewNode (kind.If k) None pl (cost_alone 0) b c n → Beside c d → ForksTo yes_block no_block d f → Converts names arm x f g → GoesOn join no_block g h →
    Converts names other y h i → GoesOn join join i j → Converts names st (tree.If pl e x y) a j
choice names st arm other pl e x y cost {k} {yes_block = yes_block} {no_block = no_block} {join = join} {a} {b} {f = f} {g = g} {h = h} {i = i} costs is also value node beside fork first on second end s ready named =
    let test = subst (λ (m : ℕ). Taken (λ (l : ℕ) (z : FlowGraph). Unasserted z l) (ValueStands s false e m) a b k) costs (value s ready named.0) in
    let forks = forked (λ l same. same) node beside fork in
    let ready_then = ready_later ready (grown_trans test.placed.grown forks.grown).later in
    let one = (subst (λ (z : Setting). Converts names z x f g) is first) s ready_then named.1 in
    let between = goes_on on in
    let ready_last = ready_later ready_then (grown_trans one.grown between.grown).later in
    let two = (subst (λ (z : Setting). Converts names z y h i) also second) s ready_last named.2 in
    seen (λ z low p q t.
    let l = through st.word (setting_passes st) in
    let chosen = t.4.2 in
    let other = chosen.2 in (
      k,
      t.0,
      yes_block,
      no_block,
      chosen.0,
      other.2.0,
      join,
      (t.1, t.2),
      t.3,
      t.4.1.0,
      t.4.1.1,
      subst (λ (u : Spot). StandsAt z s.facts rank st.tail false x 0 l low st.to u chosen.0) t.4.1.2 chosen.1,
      other.1.0,
      subst (λ (u : Spot). StandsAt z s.facts rank st.tail false y 0 l low st.to u other.2.0) other.1.1 other.2.1,
      other.2.2.0,
      other.2.2.1,
    ))
    (take_then test (in_turn forks (in_turn one (in_turn between (in_turn two (goes_on end))))))

-- ---- forms one after another

-- the setting of the forms of a PROGN
abbrev pub part_of : Setting → (cost : ℕ) → Setting
part_of st n = record { tail = st.tail; word = st.word; cost = n; levels = (through_charges st n).levels; boxing = (through_charges st n).boxing; to = st.to }

-- the same, of these charges
abbrev pub charged_part : Setting → (cost : ℕ) → Charges → Setting
charged_part st n c = record { tail = st.tail; word = st.word; cost = n; levels = c.levels; boxing = c.boxing; to = st.to }

pub sequence : (names : Names) (st part : Setting) (pl : Place) (es : Cores) (cost : ℕ) {a b : Built} → cost ≡ st.cost + 1 → part ≡ part_of st cost → ConvertsAll names part pl es a b →
    Converts names st (tree.Progn pl es) a b
sequence names st part pl es cost {a} {b} costs is all =
    let here = subst (λ (z : Setting). ConvertsAll names z pl es a b) is all in
    subst (λ (n : ℕ). ConvertsAll names (part_of st n) pl es a b) costs here

-- no form gives NIL
pub no_form : (names : Names) (st : Setting) (pl : Place) {a b : Built} → GivesNil st pl a b → ConvertsAll names st pl no_core a b
no_form names st pl node s ready named = node_placed (λ k same. same) node.1

named_firsts : (ts : List FunctionText) (es : Cores) (f : Core) → AllNamed ts (cores_and es f) → AllNamed ts es
named_firsts ts no_core f named = tt
named_firsts ts (core e es) f named = (named.0, named_firsts ts es f named.1)

named_last : (ts : List FunctionText) (es : Cores) (f : Core) → AllNamed ts (cores_and es f) → Named ts f
named_last ts no_core f named = named.0
named_last ts (core e es) f named = named_last ts es f named.1

-- the setting of the last of some forms
abbrev pub last_of : Setting → (left : ℕ) → Setting
last_of st n = record { tail = st.tail; word = st.word; cost = n; levels = st.levels; boxing = st.boxing; to = st.to }

pub last_form : (names : Names) (st : Setting) (pl : Place) (es : Cores) (f : Core) (left : ℕ) {a b c : Built} → GoesBefore names es st.cost a b left → Converts names (last_of st left) f b c →
    ConvertsAll names st pl (cores_and es f) a c
last_form names st pl es f left before last s ready named =
    let firsts = before s ready (named_firsts (texts s) es f named) in
    let one = last s (ready_later ready firsts.grown.later) (named_last (texts s) es f named) in
    seen (λ h low p q t. t.1 st.tail st.word pl f (setting_passes st) st.to q t.2) (in_turn firsts one)

-- forms are those before the last, and that
pub cores_split : (fs : List Core') (f : Core') → cores_list (fs ++ f ∷ []) ≡ cores_and (cores_list fs) (core_of f)
cores_split [] f = refl
cores_split (e ∷ fs) f = ap (core (core_of e)) (cores_split fs f)

pub last_of_forms : (names : Names) (st : Setting) (pl : Place) (all firsts : List Core') (last : Core') (left : ℕ) {a b c : Built} → all ≡ firsts ++ last ∷ [] → GoesBefore names (cores_list firsts) st.cost a b left →
    Converts names (last_of st left) (core_of last) b c → ConvertsAll names st pl (cores_list all) a c
last_of_forms names st pl all firsts last left {a} {b} {c} split before one =
    subst (λ (es : Cores). ConvertsAll names st pl es a c) (sym (ap cores_list split ∙ cores_split firsts last)) (last_form names st pl (cores_list firsts) (core_of last) left before one)

-- ---- lists of forms

-- a form and those behind it
pub cores_more : (es : List Core') (i : ℕ) (e : Core') → i < length es → e ≡ get_or es i e → cores_list (drop i es) ≡ core (core_of e) (cores_list (drop (i + 1) es))
cores_more es i e less is = at_drop_more cores_list es i e less ∙ ap (λ (x : Core'). core (core_of x) (cores_list (drop (i + 1) es))) (sym is)

pub cores_end : (es : List Core') (i : ℕ) → length es ≤ i → cores_list (drop i es) ≡ no_core
cores_end es i all = at_drop_all cores_list es i all

-- ---- forms before others

-- the setting of a form whose values nothing takes
abbrev pub effect_of : (cost : ℕ) → Setting
effect_of n = record { tail = false; word = true; cost = n; levels = 0; boxing = 0; to = None }

pub no_form_before : (names : Names) (n : ℕ) (a : Built) → GoesBefore names no_core n a a n
no_form_before names n a s ready named = nothing a (λ h low p t w pl f l to r stands. stands)

one_before : (g : FlowGraph) (facts : Facts) (t w : Bool) (pl : Place) (e : Core) (es : Cores) (f : Core) (n : ℕ) (l : Passes) (low : ℕ) (to : Option ℕ) (p q r : Spot) →
    StandsAt g facts rank false true e n none low None p q → AllStandAt g facts rank t w pl (cores_and es f) 0 l low to q r → AllStandAt g facts rank t w pl (core e (cores_and es f)) n l low to p r
one_before g facts t w pl e no_core f n l low to p q r one others = (q, one, others)
one_before g facts t w pl e (core x es) f n l low to p q r one others = (q, one, others)

pub form_before : (names : Names) (e : Core) (es : Cores) (n left : ℕ) {a b c : Built} → Converts names (effect_of n) e a b → GoesBefore names es 0 b c left → GoesBefore names (core e es) n a c left
form_before names e es n left one others s ready named =
    let first = one s ready named.0 in
    let rest = others s (ready_later ready first.grown.later) named.1 in
    seen (λ h low p q x t w pl f l to r stands. one_before h s.facts t w pl e es f n l low to p x.0 r x.1 (x.2 t w pl f l to r stands)) (in_turn first rest)

-- the form at an index, and those behind it
pub effects_more : (names : Names) (es : List Core') (i : ℕ) (e : Core') (n left : ℕ) {a b c : Built} → i < length es → e ≡ get_or es i e → Converts names (effect_of n) (core_of e) a b →
    GoesBefore names (cores_list (drop (i + 1) es)) 0 b c left → GoesBefore names (cores_list (drop i es)) n a c left
effects_more names es i e n left {a} {b} {c} less is one others =
    subst (λ (fs : Cores). GoesBefore names fs n a c left) (sym (cores_more es i e less is)) (form_before names (core_of e) (cores_list (drop (i + 1) es)) n left one others)

pub effects_end : (names : Names) (es : List Core') (i n : ℕ) (a : Built) → length es ≤ i → GoesBefore names (cores_list (drop i es)) n a a n
effects_end names es i n a all = subst (λ (fs : Cores). GoesBefore names fs n a a n) (sym (cores_end es i all)) (no_form_before names n a)

-- ---- the first of some forms, and the last

-- a list is all before its last element, and this
pub last_split : (xs : List Core') (n : ℕ) (x : Core') → length xs ≡ n + 1 → x ≡ get_or xs n x → xs ≡ take n xs ++ x ∷ []
last_split xs n x all is =
    sym (take_all (n + 1) xs (omega (arith, all))) ∙ take_more xs n x (omega (arith, all)) ∙ ap (λ (y : Core'). take n xs ++ y ∷ []) (sym is)

-- an element of the first of them
pub in_first : (xs : List Core') (n i : ℕ) (x : Core') → i < n → x ≡ get_or xs i x → x ≡ get_or (take n xs) i x
in_first xs n i x less is = is ∙ sym (get_or-take n xs i x less)

pub within_first : (xs : List Core') (n i : ℕ) → i < n → i < length xs → i < length (take n xs)
within_first xs n i less all = subst (λ (k : ℕ). i < k) (sym (length-take n xs)) (omega (arith, less, all))

pub end_of_first : (xs : List Core') (n i : ℕ) → n ≤ i → length (take n xs) ≤ i
end_of_first xs n i all = subst (λ (k : ℕ). k ≤ i) (sym (length-take n xs)) (omega (arith, all))

-- a number that isn't 0
pub not_none : (n : ℕ) (empty : Bool) → empty ≡ (n == 0) → empty ≡ false → n ≡ (n - 1) + 1
not_none zero empty is false_too = absurd (cc)
not_none (suc n) empty is false_too = omega (arith)

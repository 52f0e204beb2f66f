-- The tags and forms of a tagbody. (This project's own.)
use Rattle.std.proofs.Common.{◌≡◌, ℕ, ◌+◌, ◌-◌, ◌<◌, ◌≤◌, List, [], ◌∷◌, ◌++◌, length, drop, take, get_or, Some, None, refl, sym, ap, subst, ◌∙◌, append_assoc, append-nil, arith}
use Rattle.std.proofs.Math.Seq.{take-length}
use Rattle.std.proofs.lemmas.List.{at_drop_more, at_drop_all}
use Rattle.lisp_base.specs.declared.values.Place.{Place}
use Rattle.lisp_base.specs.declared.values.Val.{Val}
use Rattle.lisp_base.specs.Sort.{nil}
use Rattle.ir_ids.specs.Entries.{map_of}
use Rattle.core_form.specs.declared.tree.Core.{Core as Core'}
use Rattle.core_form.specs.declared.tree.Item.{Item as Item'}
use Rattle.core_form.specs.declared.tree.Item.TheVariants as item
use Rattle.core_form.specs.Tree as tree
use Rattle.core_form.specs.Tree.{Core, Items, no_item, tag, step}
use Rattle.core_form.specs.Reading.{core_of}
use Rattle.core_form.specs.ListReading.{items_list}
use Rattle.core_form.specs.Facts.{tagbody_number}
use Rattle.icr_graph.specs.declared.nodes.NodeKind.TheVariants as kind
use Rattle.icr_graph.specs.declared.nodes.Leaf.TheVariants as leaf
use Rattle.icr_graph.specs.declared.nodes.Extent.TheVariants as extent
use Rattle.icr_graph.specs.declared.nodes.Leaving.TheVariants as way
use Rattle.icr_graph.specs.declared.nodes.Tag.{Tag}
use Rattle.form_graphs.specs.Spots.{Spot, next, Here, through}
use Rattle.form_graphs.specs.Standing.{ItemsStandAt}
use Rattle.graph_building.specs.Built.{Built, Beside, NewNode, NewExit, GoesOn}
use Rattle.icr_convert.specs.declared.names.Names.{Names}
use Rattle.icr_convert.specs.declared.setting.Setting.{Setting}
use Rattle.icr_convert.specs.Scene.{rank}
use Rattle.icr_convert.specs.Converting.{AreTags, Converts, ConvertsItems, setting_passes, through_charges, cost_alone}
use Rattle.icr_convert.proofs.Growing.{grown_refl, grown_trans, beside_trans, ready_later}
use Rattle.icr_convert.proofs.Steps.{seen, held, nothing, in_turn, after_beside, node_placed, entry_placed, exit_placed, goes_on}
use Rattle.icr_convert.proofs.Leaving.{effect_of}

pub no_item_converts : {names : Names} (a : Built) → ConvertsItems names no_item [] a a
no_item_converts a s ready named = nothing a (λ h low p. (refl, refl))

pub tag_converts : {names : Names} (t : ℕ) (name : Val) (is : Items) (u : Tag) (us : List Tag) {a b c : Built} → u.number ≡ t → u.name ≡ name → GoesOn u.block u.block a b → ConvertsItems names is us b c →
    ConvertsItems names (tag t name is) (u ∷ us) a c
tag_converts t name is u us numbered called on others s ready named =
    seen (λ h low p q f. (u.block, (numbered, called, refl), f.1.0, subst (λ (z : Spot). ItemsStandAt h s.facts rank is us low z q) f.1.1 f.2))
    (in_turn (goes_on on) (others s (ready_later ready on.grown.later) named))

pub step_converts : {names : Names} (e : Core) (is : Items) (us : List Tag) {part : Setting} {a b c : Built} → part ≡ effect_of 0 → Converts names part e a b → ConvertsItems names is us b c → ConvertsItems names (step e is) us a c
step_converts {names} e is us {part} {a} {b} parts form others s ready named =
    let one = subst (λ (k : Setting). Converts names k e a b) parts form s ready named.0 in
    in_turn one (others s (ready_later ready one.grown.later) named.1)

-- ---- the same, in loops over the items

pub tag_from : (is : List Item') (i : ℕ) (x : Item') (t : ℕ) (name : Val) → i < length is → x ≡ get_or is i x → x ≡ item.Tag t name → items_list (drop i is) ≡ tag t name (items_list (drop (i + 1) is))
tag_from is i x t name inside at known = at_drop_more items_list is i x inside ∙ ap (λ (y : Item'). items_list (y ∷ drop (i + 1) is)) (sym at ∙ known)

pub step_from : (is : List Item') (i : ℕ) (x : Item') (e : Core') → i < length is → x ≡ get_or is i x → x ≡ item.Step e → items_list (drop i is) ≡ step (core_of e) (items_list (drop (i + 1) is))
step_from is i x e inside at known = at_drop_more items_list is i x inside ∙ ap (λ (y : Item'). items_list (y ∷ drop (i + 1) is)) (sym at ∙ known)

-- the tags that were made of the items before these
pub record TagsMade (is rest : Items) (ts : List Tag) (start a : Built) : Type 0 where
  pub so_far : (us : List Tag) → AreTags rest us → AreTags is (ts ++ us)
  pub beside : Beside start a

pub tags_begun : (is : Items) {ts : List Tag} (a : Built) → ts ≡ [] → TagsMade is is ts a a
tags_begun is a none =
    record { so_far = λ us given. subst (λ (l : List Tag). AreTags is (l ++ us)) (sym none) given; beside = record { grown = grown_refl a; same = refl } }

pub tags_at : {is rest : Items} {ts us : List Tag} {start a b : Built} → us ≡ ts → b ≡ a → TagsMade is rest ts start a → TagsMade is rest us start b
tags_at {is} {rest} {ts} {us} {start} {a} {b} same_tags same given =
    subst (λ (l : List Tag). TagsMade is rest l start b) (sym same_tags) (subst (λ (k : Built). TagsMade is rest ts start k) (sym same) given)

pub tag_made : (is : List Item') (i : ℕ) (x : Item') (u : Tag) {ts us : List Tag} {start a b : Built} → i < length is → x ≡ get_or is i x → x ≡ item.Tag u.number u.name → us ≡ ts ++ u ∷ [] → Beside a b →
    TagsMade (items_list is) (items_list (drop i is)) ts start a → TagsMade (items_list is) (items_list (drop (i + 1) is)) us start b
tag_made is i x u {ts} inside at known pushed beside made =
    record {
      so_far = λ vs others.
          let here = subst (λ (l : Items). AreTags l (u ∷ vs)) (sym (tag_from is i x u.number u.name inside at known)) (refl, refl, others) in
          subst (λ (l : List Tag). AreTags (items_list is) l) (sym (ap (λ (l : List Tag). l ++ vs) pushed ∙ append_assoc ts (u ∷ []) vs)) (made.so_far (u ∷ vs) here);
      beside = beside_trans made.beside beside;
    }

pub step_passed : (is : List Item') (i : ℕ) (x : Item') (e : Core') {ts : List Tag} {start a : Built} → i < length is → x ≡ get_or is i x → x ≡ item.Step e →
    TagsMade (items_list is) (items_list (drop i is)) ts start a → TagsMade (items_list is) (items_list (drop (i + 1) is)) ts start a
step_passed is i x e inside at known made =
    record {
      so_far = λ vs others. made.so_far vs (subst (λ (l : Items). AreTags l vs) (sym (step_from is i x e inside at known)) others);
      beside = made.beside;
    }

pub all_tags : (is : List Item') (i : ℕ) (ts : List Tag) {start a : Built} → length is ≤ i → TagsMade (items_list is) (items_list (drop i is)) ts start a → AreTags (items_list is) ts
all_tags is i ts over made =
    subst (λ (l : List Tag). AreTags (items_list is) l) (append-nil ts) (made.so_far [] (subst (λ (l : Items). AreTags l []) (sym (at_drop_all items_list is i over)) tt))

-- the first of a list, and the others
pub first_and : (us : List Tag) (u : Tag) → 1 ≤ length us → u ≡ get_or us 0 u → us ≡ u ∷ take (length us - 1) (drop 1 us)
first_and [] u some is = absurd (omega arith)
first_and (v ∷ us) u some is =
    let all : take (length (v ∷ us) - 1) us ≡ us = ap (λ (n : ℕ). take n us) (omega arith) ∙ take-length us in
    ap (λ (z : Tag). z ∷ us) (sym is) ∙ ap (λ (zs : List Tag). u ∷ zs) (sym all)

-- what is still to be converted: these items, whose tags these are
pub record Rest (names : Names) (is rest : Items) (us vs : List Tag) (start a : Built) : Type 0 where
  pub so_far : (c : Built) → ConvertsItems names rest vs a c → ConvertsItems names is us start c
  pub tags : AreTags rest vs

no_more : {names : Names} {is : Items} (vs : List Tag) {us : List Tag} {start a : Built} → Rest names is no_item us vs start a → ConvertsItems names is us start a
no_more [] {a = a} rest = rest.so_far a (no_item_converts a)
no_more (v ∷ vs) rest = absurd rest.tags

pub all_converted : {names : Names} (is : List Item') (i : ℕ) (us vs : List Tag) {start a : Built} → length is ≤ i → Rest names (items_list is) (items_list (drop i is)) us vs start a → ConvertsItems names (items_list is) us start a
all_converted {names} is i us vs {start} {a} over rest =
    no_more vs (subst (λ (l : Items). Rest names (items_list is) l us vs start a) (at_drop_all items_list is i over) rest)

pub rest_at : {names : Names} {is rest : Items} {us vs ws : List Tag} {start a b : Built} → ws ≡ vs → b ≡ a → Rest names is rest us vs start a → Rest names is rest us ws start b
rest_at {names} {is} {rest} {us} {vs} {ws} {start} {a} {b} same_tags same given =
    subst (λ (l : List Tag). Rest names is rest us l start b) (sym same_tags) (subst (λ (k : Built). Rest names is rest us vs start k) (sym same) given)

pub tag_converted : {names : Names} (is : List Item') (i : ℕ) (x : Item') (u : Tag) (us : List Tag) {t : ℕ} {name : Val} {vs others : List Tag} {start a b : Built} → i < length is → x ≡ get_or is i x → x ≡ item.Tag t name →
    vs ≡ u ∷ others → GoesOn u.block u.block a b → Rest names (items_list is) (items_list (drop i is)) us vs start a → Rest names (items_list is) (items_list (drop (i + 1) is)) us others start b
tag_converted {names} is i x u us {t} {name} {vs} {others} {start} {a} {b} inside at known split on rest =
    let there = subst (λ (l : Items). Rest names (items_list is) l us vs start a) (tag_from is i x t name inside at known) rest in
    let here = subst (λ (l : List Tag). Rest names (items_list is) (tag t name (items_list (drop (i + 1) is))) us l start a) split there in
    record {
      so_far = λ c then. here.so_far c (tag_converts t name (items_list (drop (i + 1) is)) u others here.tags.0 here.tags.1 on then);
      tags = here.tags.2;
    }

pub step_converted : {names : Names} (is : List Item') (i : ℕ) (x : Item') (e : Core') (us vs : List Tag) {part : Setting} {start a b : Built} → i < length is → x ≡ get_or is i x → x ≡ item.Step e →
    part ≡ effect_of 0 → Converts names part (core_of e) a b → Rest names (items_list is) (items_list (drop i is)) us vs start a → Rest names (items_list is) (items_list (drop (i + 1) is)) us vs start b
step_converted {names} is i x e us vs {part} {start} {a} {b} inside at known parts form rest =
    let here = subst (λ (l : Items). Rest names (items_list is) l us vs start a) (step_from is i x e inside at known) rest in
    record { so_far = λ c then. here.so_far c (step_converts (core_of e) (items_list (drop (i + 1) is)) vs parts form then); tags = here.tags }

-- ---- the form

pub tagbody_converts : (st : Setting) (pl : Place) (is : Items) {names : Names} {tags listed : List Tag} {v n m entry : ℕ} {a b c d i j : Built} → map_of names.variables.items (tagbody_number is) ≡ Some v → Beside a b → n ≡ st.cost + 1 →
    listed ≡ tags → NewNode (kind.Entry (extent.Tags v listed) []) None pl (cost_alone n) b c entry → ConvertsItems names is tags c d → NewExit way.Close (Some entry) None pl (cost_alone 0) d i →
    NewNode (kind.Ref (leaf.Constant nil)) st.to pl (through_charges st 0) i j m → Converts names st (tree.Tagbody pl is) a j
tagbody_converts st pl is {names} {tags} {listed} {v} {n} {m} {entry} {a} {b} {c} variable beside costs lists node items exit value s ready named =
    let there = subst (λ (l : List Tag). NewNode (kind.Entry (extent.Tags v l) []) None pl (cost_alone n) b c entry) lists node in
    let here = subst (λ (n : ℕ). NewNode (kind.Entry (extent.Tags v tags) []) None pl (cost_alone n) b c entry) costs there in
    let inside = items s (ready_later ready (grown_trans beside.grown node.grown).later) named in
    seen (λ h low p q f. (
      v,
      f.1.1.0,
      tags,
      f.1.2.0,
      f.0,
      f.1.1.1,
      subst (λ (z : Spot). ItemsStandAt h s.facts rank is tags low z f.1.2.0) f.1.1.2 f.1.2.1,
      (Some entry, f.1.2.2.1.0),
      subst (λ (z : Spot). Here h z (kind.Ref (leaf.Constant nil)) st.to pl 0 (through st.word (setting_passes st))) f.1.2.2.1.1 f.1.2.2.2.0,
      f.1.2.2.2.1 ∙ ap next f.1.2.2.1.1,
    ))
    (held (ready.variables (tagbody_number is) v variable) (after_beside beside (in_turn (entry_placed here) (in_turn inside (in_turn (exit_placed exit) (node_placed (λ k same. same) value))))))

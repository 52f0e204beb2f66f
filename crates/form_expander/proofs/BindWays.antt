-- Bindings, blocks and tags round their parts, by the ways through them.
use Rattle.std.proofs.Common.{◌≡◌, refl, ap, sym, ◌∙◌, ℕ, List}
use Rattle.lisp_base.specs.declared.values.SymId.{SymId}
use Rattle.lisp_base.specs.declared.values.Val.{Val}
use Rattle.core_form.specs.Tree as tree
use Rattle.core_form.specs.Tree.{Core, Bindings, Items}
use Rattle.expansion.specs.Scopes.{Scope, with_block}
use Rattle.expansion.specs.Steps.{World, Answer, gives, Step, and_then, ◌>>=◌, ◌>>◌, pure, inside}
use Rattle.expansion.specs.Sketches.{Sketch, Initial}
use Rattle.expansion.specs.Expanding.{Inner, Bound, binding_node, block_node, bounds_of, items, tagbody_node, values_bound, with_all, with_tags}
use Rattle.form_expander.specs.declared.fault.Fault.{Fault}
use Rattle.form_expander.specs.Beginnings.{begin_bindings, begin_numbers, begin_tags}
use Rattle.form_expander.specs.Outcomes.{Refuses}
use Rattle.form_expander.proofs.Following.{refused_same, first_refused, first_given}

-- ---- bindings

module _ (levels : ℕ) (inner : Inner) (sc : Scope) (bs : List Initial) (x : Sketch) (w : World) where
  abbrev bound_first : Answer (List (Bound × Val))
  bound_first = begin_bindings levels sc bs w

  abbrev bound_whole : Answer Core
  bound_whole = binding_node levels inner sc bs x w

  abbrev values_after : List (Bound × Val) → Step Core
  values_after ps u = and_then (values_bound (inner (inside levels) sc) ps u) (λ values. λ v. and_then (inner (inside levels) (with_all sc (bounds_of ps)) x v) (λ e. λ z. gives (tree.Let sc.place values e) z))

  bound_on : bound_whole ≡ and_then bound_first values_after
  unfolding binding_node begin_bindings ◌>>=◌ ◌>>◌ pure
  bound_on = refl

  pub bind_refused : (e : Fault) → Refuses bound_first e → Refuses bound_whole e
  bind_refused e h = refused_same (and_then bound_first values_after) bound_whole e bound_on (first_refused bound_first values_after e h)

  module _ (ps : List (Bound × Val)) (u : World) (begins : bound_first ≡ gives ps u) where
    abbrev body_of_values : Bindings → Step Core
    body_of_values values v = and_then (inner (inside levels) (with_all sc (bounds_of ps)) x v) (λ e. λ z. gives (tree.Let sc.place values e) z)

    values_of : bound_whole ≡ and_then (values_bound (inner (inside levels) sc) ps u) body_of_values
    values_of = bound_on ∙ first_given bound_first values_after ps u begins

    pub bind_values_refused : (e : Fault) → Refuses (values_bound (inner (inside levels) sc) ps u) e → Refuses bound_whole e
    bind_values_refused e h =
        refused_same (and_then (values_bound (inner (inside levels) sc) ps u) body_of_values) bound_whole e values_of (first_refused (values_bound (inner (inside levels) sc) ps u) body_of_values e h)

    module _ (values : Bindings) (v : World) (within : Scope) (made : values_bound (inner (inside levels) sc) ps u ≡ gives values v) (around : within ≡ with_all sc (bounds_of ps)) where
      abbrev let_of : Core → Step Core
      let_of e z = gives (tree.Let sc.place values e) z

      let_within : bound_whole ≡ and_then (inner (inside levels) within x v) let_of
      let_within =
          values_of
          ∙ (first_given (values_bound (inner (inside levels) sc) ps u) body_of_values values v made
          ∙ ap (λ (s : Scope). and_then (inner (inside levels) s x v) let_of) (sym around))

      pub bind_body_refused : (e : Fault) → Refuses (inner (inside levels) within x v) e → Refuses bound_whole e
      bind_body_refused e h = refused_same (and_then (inner (inside levels) within x v) let_of) bound_whole e let_within (first_refused (inner (inside levels) within x v) let_of e h)

      pub bind_gives : (c : Core) (z : World) (result : Core) → inner (inside levels) within x v ≡ gives c z → result ≡ tree.Let sc.place values c → bound_whole ≡ gives result z
      bind_gives c z result h e = let_within ∙ (first_given (inner (inside levels) within x v) let_of c z h ∙ ap (λ (k : Core). gives k z) (sym e))

-- ---- blocks

module _ (levels : ℕ) (inner : Inner) (sc : Scope) (s : SymId) (x : Sketch) (w : World) where
  abbrev block_first : Answer ℕ
  block_first = begin_numbers 1 levels sc w

  abbrev block_whole : Answer Core
  block_whole = block_node levels inner sc s x w

  abbrev block_after : ℕ → Step Core
  block_after n u = and_then (inner (inside levels) (with_block s n sc) x u) (λ e. λ z. gives (tree.Block sc.place n s e) z)

  block_on : block_whole ≡ and_then block_first block_after
  unfolding block_node begin_numbers ◌>>=◌ ◌>>◌ pure
  block_on = refl

  pub block_refused : (e : Fault) → Refuses block_first e → Refuses block_whole e
  block_refused e h = refused_same (and_then block_first block_after) block_whole e block_on (first_refused block_first block_after e h)

  module _ (n : ℕ) (u : World) (within : Scope) (begins : block_first ≡ gives n u) (around : within ≡ with_block s n sc) where
    abbrev block_of : Core → Step Core
    block_of e z = gives (tree.Block sc.place n s e) z

    block_within : block_whole ≡ and_then (inner (inside levels) within x u) block_of
    block_within =
        block_on
        ∙ (first_given block_first block_after n u begins
        ∙ ap (λ (o : Scope). and_then (inner (inside levels) o x u) block_of) (sym around))

    pub block_body_refused : (e : Fault) → Refuses (inner (inside levels) within x u) e → Refuses block_whole e
    block_body_refused e h = refused_same (and_then (inner (inside levels) within x u) block_of) block_whole e block_within (first_refused (inner (inside levels) within x u) block_of e h)

    pub block_gives : (c : Core) (z : World) (result : Core) → inner (inside levels) within x u ≡ gives c z → result ≡ tree.Block sc.place n s c → block_whole ≡ gives result z
    block_gives c z result h e = block_within ∙ (first_given (inner (inside levels) within x u) block_of c z h ∙ ap (λ (k : Core). gives k z) (sym e))

-- ---- tags

module _ (levels : ℕ) (inner : Inner) (sc : Scope) (vs : List Val) (w : World) where
  abbrev tags_first : Answer ℕ
  tags_first = begin_tags levels sc vs w

  abbrev tags_whole : Answer Core
  tags_whole = tagbody_node levels inner sc vs w

  abbrev items_after : ℕ → Step Core
  items_after n u = and_then (items (inner (inside levels) (with_tags n vs sc)) n vs u) (λ is. λ z. gives (tree.Tagbody sc.place is) z)

  tags_on : tags_whole ≡ and_then tags_first items_after
  unfolding tagbody_node begin_tags begin_numbers ◌>>=◌ ◌>>◌ pure
  tags_on = refl

  pub tagbody_refused : (e : Fault) → Refuses tags_first e → Refuses tags_whole e
  tagbody_refused e h = refused_same (and_then tags_first items_after) tags_whole e tags_on (first_refused tags_first items_after e h)

  module _ (n : ℕ) (u : World) (within : Scope) (begins : tags_first ≡ gives n u) (around : within ≡ with_tags n vs sc) where
    abbrev tagbody_of : Items → Step Core
    tagbody_of is z = gives (tree.Tagbody sc.place is) z

    tagbody_within : tags_whole ≡ and_then (items (inner (inside levels) within) n vs u) tagbody_of
    tagbody_within =
        tags_on
        ∙ (first_given tags_first items_after n u begins
        ∙ ap (λ (o : Scope). and_then (items (inner (inside levels) o) n vs u) tagbody_of) (sym around))

    pub tagbody_items_refused : (e : Fault) → Refuses (items (inner (inside levels) within) n vs u) e → Refuses tags_whole e
    tagbody_items_refused e h =
        refused_same (and_then (items (inner (inside levels) within) n vs u) tagbody_of) tags_whole e tagbody_within (first_refused (items (inner (inside levels) within) n vs u) tagbody_of e h)

    pub tagbody_gives : (is : Items) (z : World) (result : Core) → items (inner (inside levels) within) n vs u ≡ gives is z → result ≡ tree.Tagbody sc.place is → tags_whole ≡ gives result z
    tagbody_gives is z result h e = tagbody_within ∙ (first_given (items (inner (inside levels) within) n vs u) tagbody_of is z h ∙ ap (λ (k : Core). gives k z) (sym e))

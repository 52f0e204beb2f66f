-- What it means that a value was noted.
use Rattle.std.specs.Prelude.{◌≡◌, refl, Bool, true, false, not, ◌&&◌, ◌||◌, List}
use Rattle.std.proofs.Common.{ap, sym, ◌∙◌, ◌⊎◌, inl, inr}
use Rattle.std.proofs.lemmas.Bool.Decides.{Decides-eqb, Decides-int_eq}
use Rattle.lisp_base.specs.declared.values.Val.{Val}
use Rattle.lisp_base.specs.declared.values.Val.TheVariants.{Int, Char, Sym, Ref}
use Rattle.lisp_base.specs.Sort.{symbol, object}
use Rattle.lisp_base.specs.Tables.{Object}
use Rattle.program_size.specs.declared.marks.Marks.{Marks}
use Rattle.program_size.specs.Marking.{is_kept, is_symbol, is_same, has, Notes, IsSettled}

-- ---- tests

pub or_right : (a b : Bool) → b ≡ true → (a || b) ≡ true
or_right true b e = refl
or_right false b e = e

pub or_left : (a b : Bool) → a ≡ true → (a || b) ≡ true
or_left true b e = refl
or_left false b e = cc

pub or_cases : (a b : Bool) → (a || b) ≡ true → (a ≡ true) ⊎ (b ≡ true)
or_cases true b e = inl refl
or_cases false b e = inr e

pub or_none : (a b : Bool) → (a || b) ≡ false → b ≡ false
or_none true b e = cc
or_none false b e = e

pub and_first : (a b : Bool) → (a && b) ≡ true → a ≡ true
and_first true b e = refl
and_first false b e = e

pub and_second : (a b : Bool) → (a && b) ≡ true → b ≡ true
and_second true b e = e
and_second false b e = cc

pub and_both : (a b : Bool) → a ≡ true → b ≡ true → (a && b) ≡ true
and_both true b e h = h
and_both false b e h = cc

pub unless : (a b : Bool) → a ≡ false → (a || b) ≡ b
unless false b e = refl
unless true b e = cc

-- ---- one and the same value

pub same_is : (v w : Val) → is_same v w ≡ true → v ≡ w
same_is (Int a) (Int b) e = ap (λ z. Int z) ((Decides-int_eq a b).0 e)
same_is (Int a) (Char d) e = cc
same_is (Int a) (Sym t) e = cc
same_is (Int a) (Ref p) e = cc
same_is (Char c) w e = cc
same_is (Sym s) (Int b) e = cc
same_is (Sym s) (Char d) e = cc
same_is (Sym s) (Sym t) e = ap (λ n. Sym (symbol n)) ((Decides-eqb s.0 t.0).0 e)
same_is (Sym s) (Ref p) e = cc
same_is (Ref o) (Int b) e = cc
same_is (Ref o) (Char d) e = cc
same_is (Ref o) (Sym t) e = cc
same_is (Ref o) (Ref p) e = ap (λ n. Ref (object n)) ((Decides-eqb o.0 p.0).0 e)

same_itself : (heap : List Object) (v : Val) → is_kept heap v ≡ true → is_same v v ≡ true
same_itself heap (Int a) k = (Decides-int_eq a a).1 refl
same_itself heap (Char c) k = k
same_itself heap (Sym s) k = (Decides-eqb s.0 s.0).1 refl
same_itself heap (Ref o) k = (Decides-eqb o.0 o.0).1 refl

-- ---- what noting a value leaves

module _ (heap : List Object) (m n : Marks) (v : Val) (new : Bool) (noted : Notes heap m v new n) where
  pub kept : (w : Val) → has m w ≡ true → has n w ≡ true
  kept w h = noted.marks w ∙ or_right (is_same v w && new) (has m w) h

  pub only : (w : Val) → has n w ≡ true → (has m w ≡ true) ⊎ ((v ≡ w) × (new ≡ true))
  only w h = by (or_cases (is_same v w && new) (has m w) (sym (noted.marks w) ∙ h))
    where
      by : ((is_same v w && new) ≡ true) ⊎ (has m w ≡ true) → (has m w ≡ true) ⊎ ((v ≡ w) × (new ≡ true))
      by (inl e) = inr (same_is v w (and_first (is_same v w) new e), and_second (is_same v w) new e)
      by (inr e) = inl e

  pub here : IsSettled heap n v
  here k = noted.marks v ∙ by new (has m v) (noted.is_new ∙ ap (λ b. b && not (has m v)) k)
    where
      by : (b c : Bool) → b ≡ not c → ((is_same v v && b) || c) ≡ true
      by b true e = or_right (is_same v v && b) true refl
      by true false e = or_left (is_same v v && true) false (and_both (is_same v v) true (same_itself heap v k) refl)
      by false false e = cc

  pub settled : (w : Val) → IsSettled heap m w → IsSettled heap n w
  settled w h k = kept w (h k)

  pub quiet : n.news ≡ false → m.news ≡ false
  quiet e = or_none (is_symbol v && new) m.news (sym noted.news ∙ e)

  pub no_news : n.news ≡ false → (w : Val) → is_symbol w ≡ true → has n w ≡ true → has m w ≡ true
  no_news e w s h = by (only w h)
    where
      by : (has m w ≡ true) ⊎ ((v ≡ w) × (new ≡ true)) → has m w ≡ true
      by (inl k) = k
      by (inr k) =
          let loud = or_left (is_symbol v && new) m.news (and_both (is_symbol v) new (ap is_symbol k.0 ∙ s) k.1) in
          let silent = sym noted.news ∙ e in cc

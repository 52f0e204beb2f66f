-- A set that is not in another has a value of the language that shows it.
use Rattle.std.proofs.Common.{◌≡◌, ◌⊎◌, inl, inr, ℕ, ℤ, pos, negsuc, Bool, true, false, not, ◌&&◌, ◌||◌, int_lt, int_le, List, [], ◌∷◌, refl, sym, subst}
use Rattle.std.specs.List.{list_all}
use Rattle.std.proofs.lemmas.Bool.{and_parts, and_from, and_cases, or_parts, not-false, false≢true}
use Rattle.lisp_base.specs.declared.values.SymKind.TheVariants as symbol_kinds
use Rattle.type_lattice.specs.declared.ty.Ty.{Ty}
use Rattle.type_lattice.specs.Borders.{is_before}
use Rattle.type_lattice.specs.Walks.{IsOutside, Escapes, at_once, at_border}
use Rattle.lisp_base.specs.Lawful.{least_integer, greatest_integer, is_character_value}
use Rattle.type_lattice.specs.Values.{Value, Integer, Character, Symbol, Cons, Vector, Text, Function, is_value, is_integer_border, is_character_border, is_symbol_border}
use Rattle.type_lattice.specs.Members.{holds, is_in, HasMore, kinds_within}
use Rattle.type_lattice.proofs.Order.{le_of}

-- a number that is outside is the first of its kind or passes the test of borders
pub record Shown (border : ℤ → Bool) (m : ℤ) (a : Bool) (us : List ℤ) (b : Bool) (vs : List ℤ) : Type 0 where
  pub number : ℤ
  pub place : (number ≡ m) ⊎ (border number ≡ true)
  pub outside : IsOutside a us b vs number

before_all : (border : ℤ → Bool) (m : ℤ) → ((z : ℤ) → border z ≡ true → int_lt m z ≡ true) → (bs : List ℤ) → list_all border bs ≡ true → is_before m bs ≡ true
before_all border m h [] r = refl
before_all border m h (b ∷ bs) r = h b (and_parts (border b) (list_all border bs) r).0

pub shown : (border : ℤ → Bool) (m : ℤ) → ((z : ℤ) → border z ≡ true → int_lt m z ≡ true) → (a : Bool) (us : List ℤ) (b : Bool) (vs : List ℤ) →
    list_all border us ≡ true → list_all border vs ≡ true → Escapes a us b vs → Shown border m a us b vs
shown border m h a us b vs r s (at_once f) =
    record { number = m; place = inl refl; outside = f m (before_all border m h us r) (before_all border m h vs s) }
shown border m h a us b vs r s (at_border z k o) =
    record { number = z; place = inr (k border r s); outside = o }

least_is_integer : (int_le least_integer least_integer && int_le least_integer greatest_integer) ≡ true
unfolding least_integer greatest_integer
least_is_integer = refl

first_is_character : is_character_value 0 ≡ true
unfolding is_character_value
first_is_character = refl

pub more_integers : (a b : Ty) → Escapes a.integers.below a.integers.borders.items b.integers.below b.integers.borders.items → HasMore a b
more_integers a b e = by (shown is_integer_border least_integer (λ z h. (and_parts _ _ h).0) _ _ _ _ a.integer_borders b.integer_borders e)
  where
    lawful : (z : ℤ) → (z ≡ least_integer) ⊎ (is_integer_border z ≡ true) → is_value (Integer z) ≡ true
    lawful z (inl h) = subst (λ (x : ℤ). is_value (Integer x) ≡ true) (sym h) least_is_integer
    lawful z (inr h) = let k = and_parts (int_lt least_integer z) (int_le z greatest_integer) h in and_from _ _ (le_of least_integer z k.0) k.1

    by : Shown is_integer_border least_integer a.integers.below a.integers.borders.items b.integers.below b.integers.borders.items → HasMore a b
    by s = record { value = Integer s.number; lawful = lawful s.number s.place; within = s.outside.within; without = s.outside.without }

above_zero : (z : ℤ) → is_symbol_border z ≡ true → int_lt (pos 0) z ≡ true
above_zero (pos n) h = h
above_zero (negsuc n) h = absurd (false≢true h)

character_above_zero : (z : ℤ) → is_character_border z ≡ true → int_lt (pos 0) z ≡ true
character_above_zero (pos n) h = (and_parts _ _ h).0
character_above_zero (negsuc n) h = absurd (false≢true h)

-- a number from 0 on, as such
pub record Natural (z : ℤ) : Type 0 where
  pub number : ℕ
  pub is : z ≡ pos number

natural : (z : ℤ) → (z ≡ pos 0) ⊎ (is_symbol_border z ≡ true) → Natural z
natural (pos n) h = record { number = n; is = refl }
natural (negsuc n) (inl h) = record { number = 0; is = h }
natural (negsuc n) (inr h) = absurd (false≢true h)

pub record Letter (z : ℤ) : Type 0 where
  pub number : ℕ
  pub is : z ≡ pos number
  pub lawful : is_character_value number ≡ true

letter : (z : ℤ) → (z ≡ pos 0) ⊎ (is_character_border z ≡ true) → Letter z
letter z (inl h) = record { number = 0; is = h; lawful = first_is_character }
letter (pos n) (inr h) = record { number = n; is = refl; lawful = (and_parts _ _ h).1 }
letter (negsuc n) (inr h) = absurd (false≢true h)

pub more_characters : (a b : Ty) → Escapes a.characters.below a.characters.borders.items b.characters.below b.characters.borders.items → HasMore a b
more_characters a b e = by (shown is_character_border (pos 0) character_above_zero _ _ _ _ a.character_borders b.character_borders e)
  where
    at : (z : ℤ) → Letter z → IsOutside a.characters.below a.characters.borders.items b.characters.below b.characters.borders.items z → HasMore a b
    at z l o = record {
      value = Character l.number;
      lawful = l.lawful;
      within = subst (λ (x : ℤ). holds a.characters x ≡ true) l.is o.within;
      without = subst (λ (x : ℤ). holds b.characters x ≡ false) l.is o.without;
    }

    by : Shown is_character_border (pos 0) a.characters.below a.characters.borders.items b.characters.below b.characters.borders.items → HasMore a b
    by s = at s.number (letter s.number s.place) s.outside

pub more_symbols : (a b : Ty) → Escapes a.symbols.below a.symbols.borders.items b.symbols.below b.symbols.borders.items → HasMore a b
more_symbols a b e = by (shown is_symbol_border (pos 0) above_zero _ _ _ _ a.symbol_borders b.symbol_borders e)
  where
    at : (z : ℤ) → Natural z → IsOutside a.symbols.below a.symbols.borders.items b.symbols.below b.symbols.borders.items z → HasMore a b
    at z l o = record {
      value = Symbol symbol_kinds.Plain l.number;
      lawful = refl;
      within = subst (λ (x : ℤ). holds a.symbols x ≡ true) l.is o.within;
      without = subst (λ (x : ℤ). holds b.symbols x ≡ false) l.is o.without;
    }

    by : Shown is_symbol_border (pos 0) a.symbols.below a.symbols.borders.items b.symbols.below b.symbols.borders.items → HasMore a b
    by s = at s.number (natural s.number s.place) s.outside

pub more_keywords : (a b : Ty) → Escapes a.keywords.below a.keywords.borders.items b.keywords.below b.keywords.borders.items → HasMore a b
more_keywords a b e = by (shown is_symbol_border (pos 0) above_zero _ _ _ _ a.keyword_borders b.keyword_borders e)
  where
    at : (z : ℤ) → Natural z → IsOutside a.keywords.below a.keywords.borders.items b.keywords.below b.keywords.borders.items z → HasMore a b
    at z l o = record {
      value = Symbol symbol_kinds.Keyword l.number;
      lawful = refl;
      within = subst (λ (x : ℤ). holds a.keywords x ≡ true) l.is o.within;
      without = subst (λ (x : ℤ). holds b.keywords x ≡ false) l.is o.without;
    }

    by : Shown is_symbol_border (pos 0) a.keywords.below a.keywords.borders.items b.keywords.below b.keywords.borders.items → HasMore a b
    by s = at s.number (natural s.number s.place) s.outside

one_more : (a b : Ty) (v : Value) → is_value v ≡ true → (not (is_in a v) || is_in b v) ≡ false → HasMore a b
one_more a b v l h = let k = or_parts (not (is_in a v)) (is_in b v) h in record { value = v; lawful = l; within = not-false (is_in a v) k.0; without = k.1 }

pub more_kinds : (a b : Ty) → kinds_within a.kinds b.kinds ≡ false → HasMore a b
more_kinds a b h = three (and_cases _ _ h)
  where
    one : ((not a.kinds.conses || b.kinds.conses) ≡ false) ⊎ ((not a.kinds.vectors || b.kinds.vectors) ≡ false) → HasMore a b
    one (inl k) = one_more a b Cons refl k
    one (inr k) = one_more a b Vector refl k

    two : (((not a.kinds.conses || b.kinds.conses) && (not a.kinds.vectors || b.kinds.vectors)) ≡ false) ⊎ ((not a.kinds.strings || b.kinds.strings) ≡ false) → HasMore a b
    two (inl k) = one (and_cases _ _ k)
    two (inr k) = one_more a b Text refl k

    three : (((not a.kinds.conses || b.kinds.conses) && (not a.kinds.vectors || b.kinds.vectors) && (not a.kinds.strings || b.kinds.strings)) ≡ false) ⊎ ((not a.kinds.functions || b.kinds.functions) ≡ false) → HasMore a b
    three (inl k) = two (and_cases _ _ k)
    three (inr k) = one_more a b Function refl k

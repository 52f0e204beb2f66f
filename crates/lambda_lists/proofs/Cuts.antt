-- Lists that are parted at words, and joined again.
use Rattle.std.proofs.Common.{◌≡◌, ◌<◌, ◌+◌, ℕ, Bool, true, false, not, cond, ◌||◌, List, [], ◌∷◌, ◌++◌, Option, Some, None, nat_lt, length, take, drop, get_or, refl, sym, ap, ◌∙◌, arith}
use Rattle.std.proofs.lemmas.Bool.{false≢true, eqb-true, lt-ltb, le-ltb}
use Rattle.std.proofs.lemmas.List.{append-nil, drop_more, take-append-drop, length-append}
use Rattle.std.proofs.lemmas.List.Quantifiers.{position-Some}
use Rattle.std.proofs.lemmas.List.Folds.{list_any-append}
use Rattle.std.proofs.Math.Seq.{take-append_seam, drop-append-add}
use Rattle.std.specs.List.{list_any, position, position_or_len}
use Rattle.lisp_base.specs.declared.values.SymId.{SymId}
use Rattle.lisp_base.specs.declared.values.Val.{Val}
use Rattle.lisp_base.specs.declared.values.Val.TheVariants.{Int, Char, Sym, Ref}
use Rattle.lisp_base.specs.declared.base_symbols.TheConstants as at
use Rattle.lisp_base.specs.Sort.{nil, symbol, number_of}
use Rattle.lisp_base.specs.Membership.{is_symbol_number}
use Rattle.lambda_lists.specs.LambdaLists.{cut, cut_at, Sections}
use Rattle.lambda_lists.specs.Laws.{with_word, SectionsWriteLists, has_word, listed, SectionsAreFound}

-- ---- joined again

is_the_word : (word : SymId) (v : Val) → is_symbol_number (number_of word) v ≡ true → v ≡ Sym word
is_the_word word (Int z) h = absurd (false≢true h)
is_the_word word (Char c) h = absurd (false≢true h)
is_the_word word (Sym s) h = ap (λ (n : ℕ). Sym (symbol n)) (eqb-true (number_of s) (number_of word) h)
is_the_word word (Ref o) h = absurd (false≢true h)

cut_joined : (word : SymId) (vs : List Val) → (cut word vs).0 ++ with_word word (cut word vs).1 ≡ vs
cut_joined word vs = by (position (is_symbol_number (number_of word)) vs) refl
  where
    by : (o : Option ℕ) → position (is_symbol_number (number_of word)) vs ≡ o → (cut_at o vs).0 ++ with_word word (cut_at o vs).1 ≡ vs
    by None e = append-nil vs
    by (Some n) e =
        let here = position-Some (is_symbol_number (number_of word)) vs n nil e in
        ap (λ (v : Val). take n vs ++ v ∷ drop (n + 1) vs) (sym (is_the_word word (get_or vs n nil) here.1))
        ∙ (ap (λ (l : List Val). take n vs ++ l) (sym (drop_more vs n nil here.0)) ∙ take-append-drop n vs)

pub sections_write_lists : SectionsWriteLists
sections_write_lists vs =
    let a : List Val × Option (List Val) = cut at.LAMBDA_LIST_AUX vs in
    let k : List Val × Option (List Val) = cut at.LAMBDA_LIST_KEY a.0 in
    let r : List Val × Option (List Val) = cut at.LAMBDA_LIST_REST k.0 in
    ap (λ (l : List Val). ((l ++ with_word at.LAMBDA_LIST_REST r.1) ++ with_word at.LAMBDA_LIST_KEY k.1) ++ with_word at.LAMBDA_LIST_AUX a.1) (cut_joined at.LAMBDA_LIST_OPTIONAL r.0)
    ∙ (ap (λ (l : List Val). (l ++ with_word at.LAMBDA_LIST_KEY k.1) ++ with_word at.LAMBDA_LIST_AUX a.1) (cut_joined at.LAMBDA_LIST_REST k.0)
    ∙ (ap (λ (l : List Val). l ++ with_word at.LAMBDA_LIST_AUX a.1) (cut_joined at.LAMBDA_LIST_KEY a.0)
    ∙ cut_joined at.LAMBDA_LIST_AUX vs))

-- ---- parted again

or_first : (a b : Bool) → (a || b) ≡ false → a ≡ false
or_first true b h = h
or_first false b h = refl

or_second : (a b : Bool) → (a || b) ≡ false → b ≡ false
or_second true b h = absurd (false≢true (sym h))
or_second false b h = h

or_none : (a b : Bool) → a ≡ false → b ≡ false → (a || b) ≡ false
or_none a b h k = ap (λ (c : Bool). c || b) h ∙ k

module _ (p : Val → Bool) where
  past : (xs ys : List Val) → list_any p xs ≡ false → position_or_len p (xs ++ ys) ≡ length xs + position_or_len p ys
  past [] ys h = omega arith
  past (x ∷ xs) ys h =
      let next : position_or_len p (x ∷ (xs ++ ys)) ≡ 1 + position_or_len p (xs ++ ys) = ap (λ (b : Bool). cond (not b) (1 + position_or_len p (xs ++ ys)) 0) (or_first (p x) (list_any p xs) h) in
      let later : position_or_len p (xs ++ ys) ≡ length xs + position_or_len p ys = past xs ys (or_second (p x) (list_any p xs) h) in
      omega (arith, next, later)

  found_at : (vs : List Val) (n : ℕ) → position_or_len p vs ≡ n → nat_lt n (length vs) ≡ true → position p vs ≡ Some n
  found_at vs n is inside = ap (λ (k : ℕ). cond (nat_lt k (length vs)) (Some k) None) is ∙ ap (λ (b : Bool). cond b (Some n) None) inside

  not_found : (vs : List Val) → position_or_len p vs ≡ length vs → position p vs ≡ None
  not_found vs is =
      ap (λ (k : ℕ). cond (nat_lt k (length vs)) (Some k) None) is
      ∙ ap (λ (b : Bool). cond b (Some (length vs)) None) (le-ltb (length vs) (length vs) (omega arith))

same_word : (word : SymId) → is_symbol_number (number_of word) (Sym word) ≡ true
same_word word = grind arith

abbrev alone : List Val → List Val × Option (List Val)
alone l = (l, None)

cut_found : (word : SymId) (xs : List Val) (o : Option (List Val)) → has_word word xs ≡ false → cut word (xs ++ with_word word o) ≡ (xs, o)
cut_found word xs None h =
    let p : Val → Bool = is_symbol_number (number_of word) in
    let whole : xs ++ [] ≡ xs = append-nil xs in
    let ends : position_or_len p (xs ++ []) ≡ length xs + 0 = past p xs [] h in
    let long : length (xs ++ []) ≡ length xs = ap length whole in
    ap (λ (n : Option ℕ). cut_at n (xs ++ [])) (not_found p (xs ++ []) (omega (arith, ends, long)))
    ∙ ap alone whole
cut_found word xs (Some ys) h =
    let p : Val → Bool = is_symbol_number (number_of word) in
    let first : position_or_len p (Sym word ∷ ys) ≡ 0 = ap (λ (b : Bool). cond (not b) (1 + position_or_len p ys) 0) (same_word word) in
    let ends : position_or_len p (xs ++ Sym word ∷ ys) ≡ length xs + position_or_len p (Sym word ∷ ys) = past p xs (Sym word ∷ ys) h in
    let long : length (xs ++ Sym word ∷ ys) ≡ length xs + length (Sym word ∷ ys) = simp length-append in
    let more : 0 < length (Sym word ∷ ys) = omega arith in
    ap (λ (n : Option ℕ). cut_at n (xs ++ Sym word ∷ ys)) (found_at p (xs ++ Sym word ∷ ys) (length xs) (omega (arith, ends, first)) (lt-ltb (length xs) (length (xs ++ Sym word ∷ ys)) (omega (arith, long, more))))
    ∙ (ap (λ (l : List Val). (l, Some (drop (length xs + 1) (xs ++ Sym word ∷ ys)))) (take-append_seam xs (Sym word ∷ ys))
    ∙ ap (λ (l : List Val). (xs, Some l)) (drop-append-add xs (Sym word ∷ ys) 1))

-- another word
has_no_other : (word other : SymId) (xs : List Val) (o : Option (List Val)) → is_symbol_number (number_of word) (Sym other) ≡ false → has_word word xs ≡ false → has_word word (listed o) ≡ false → has_word word (xs ++ with_word other o) ≡ false
has_no_other word other xs None differ h k =
    list_any-append (is_symbol_number (number_of word)) xs [] ∙ or_none (has_word word xs) false h refl
has_no_other word other xs (Some ys) differ h k =
    list_any-append (is_symbol_number (number_of word)) xs (Sym other ∷ ys)
    ∙ or_none (has_word word xs) (has_word word (Sym other ∷ ys)) h (or_none (is_symbol_number (number_of word) (Sym other)) (has_word word ys) differ k)

abbrev by_optional : Option (List Val) → Option (List Val) → Option (List Val) → List Val × Option (List Val) → Sections
by_optional rest keys auxiliary o = record { required = o.0; optional = o.1; rest = rest; keys = keys; auxiliary = auxiliary }

abbrev by_rest : Option (List Val) → Option (List Val) → List Val × Option (List Val) → Sections
by_rest keys auxiliary r = by_optional r.1 keys auxiliary (cut at.LAMBDA_LIST_OPTIONAL r.0)

abbrev by_keys : Option (List Val) → List Val × Option (List Val) → Sections
by_keys auxiliary k = by_rest k.1 auxiliary (cut at.LAMBDA_LIST_REST k.0)

abbrev by_auxiliary : List Val × Option (List Val) → Sections
by_auxiliary a = by_keys a.1 (cut at.LAMBDA_LIST_KEY a.0)

pub sections_are_found : SectionsAreFound
sections_are_found s apart =
    let f1 : List Val = s.required ++ with_word at.LAMBDA_LIST_OPTIONAL s.optional in
    let f2 : List Val = f1 ++ with_word at.LAMBDA_LIST_REST s.rest in
    let f3 : List Val = f2 ++ with_word at.LAMBDA_LIST_KEY s.keys in
    let rest1 : has_word at.LAMBDA_LIST_REST f1 ≡ false = has_no_other at.LAMBDA_LIST_REST at.LAMBDA_LIST_OPTIONAL s.required s.optional refl apart.required.rest apart.optional.rest in
    let keys1 : has_word at.LAMBDA_LIST_KEY f1 ≡ false = has_no_other at.LAMBDA_LIST_KEY at.LAMBDA_LIST_OPTIONAL s.required s.optional refl apart.required.keys apart.optional.keys in
    let keys2 : has_word at.LAMBDA_LIST_KEY f2 ≡ false = has_no_other at.LAMBDA_LIST_KEY at.LAMBDA_LIST_REST f1 s.rest refl keys1 apart.rest.keys in
    let aux1 : has_word at.LAMBDA_LIST_AUX f1 ≡ false = has_no_other at.LAMBDA_LIST_AUX at.LAMBDA_LIST_OPTIONAL s.required s.optional refl apart.required.auxiliary apart.optional.auxiliary in
    let aux2 : has_word at.LAMBDA_LIST_AUX f2 ≡ false = has_no_other at.LAMBDA_LIST_AUX at.LAMBDA_LIST_REST f1 s.rest refl aux1 apart.rest.auxiliary in
    let aux3 : has_word at.LAMBDA_LIST_AUX f3 ≡ false = has_no_other at.LAMBDA_LIST_AUX at.LAMBDA_LIST_KEY f2 s.keys refl aux2 apart.keys.auxiliary in
    ap by_auxiliary (cut_found at.LAMBDA_LIST_AUX f3 s.auxiliary aux3)
    ∙ (ap (by_keys s.auxiliary) (cut_found at.LAMBDA_LIST_KEY f2 s.keys keys2)
    ∙ (ap (by_rest s.keys s.auxiliary) (cut_found at.LAMBDA_LIST_REST f1 s.rest rest1)
    ∙ ap (by_optional s.rest s.keys s.auxiliary) (cut_found at.LAMBDA_LIST_OPTIONAL s.required s.optional apart.required.optional)))

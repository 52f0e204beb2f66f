-- The values of trees of fine tokens: data, whose objects stand behind those that were there, at places of the file.
use Rattle.std.proofs.Common.{◌≡◌, refl, ap, subst, ◌∙◌, ℕ, ◌+◌, ◌<◌, ◌≤◌, Bool, true, false, List, [], ◌∷◌, ◌++◌, length, length-append, Option, Some, None, arith, append_assoc}
use Rattle.std.specs.Prelude.{if◌then◌else◌, nat_lt, encode_utf8_all}
use Rattle.std.specs.Char.{IsScalar}
use Rattle.std.specs.List.{position}
use Rattle.std.proofs.lemmas.List.Quantifiers.{position-Some}
use Rattle.lisp_base.specs.declared.values.Place.{Place}
use Rattle.lisp_base.specs.declared.values.Place.TheVariants.{File, Prelude}
use Rattle.lisp_base.specs.declared.values.SymId.{SymId}
use Rattle.lisp_base.specs.declared.values.SymKind.{SymKind}
use Rattle.lisp_base.specs.declared.values.SymKind.TheVariants as kinds
use Rattle.lisp_base.specs.declared.values.Val.{Val}
use Rattle.lisp_base.specs.declared.values.Val.TheVariants.{Int, Char, Sym, Ref}
use Rattle.lisp_base.specs.Sort.{nil, number_of, index_of, symbol as symbol_id, object as object_id}
use Rattle.lisp_base.specs.Tables.{Symbol, make_symbol, Table, make_table, most_symbols, is_symbol, found_or_added, interned, Object, Cons, Vector, Str, Fun, Cell}
use Rattle.core_form.specs.Primitives.{in_range}
use Rattle.lisp_reader.specs.declared.token.Prefix.{Prefix}
use Rattle.lisp_reader.specs.declared.token.Prefix.TheVariants as p
use Rattle.lisp_reader.specs.declared.forms.TopRead.{TopRead}
use Rattle.lisp_reader.specs.Tokens.{Atom, integer, character, string, symbol, keyword, Placed, placed, opening, vector, closing, dot, prefix}
use Rattle.lisp_reader.specs.Trees.{Tree, Trees, leaf, prefixed, list, dotted, vector_of, none, also, writing, writings}
use Rattle.lisp_reader.specs.Building.{Stock, stock, bound, prefix_symbol, chain, with_symbols, symbol_value, named, atom_value, prefix_value, list_value, vector_value, pushed, value, values, start, top_form, forms}
use Rattle.file_expansion.proofs.TextTokens.{Every, every_append, every_left, every_right, every_weaker, AreScalar, FineAtom, FinePlaced}

some_inj : {A : Type 0} {x y : A} → ◌≡◌ {A = Option A} (Some x) (Some y) → x ≡ y
some_inj e = cc

-- what comes of two steps came of both
bound_there : {A B : Type 0} (m : Option A) (f : A → Option B) (y : B) → bound m f ≡ Some y → (x : A) × (m ≡ Some x) × (f x ≡ Some y)
bound_there None f y e = absurd (cc)
bound_there (Some x) f y e = (x, refl, e)

-- ---- values and objects, by how many symbols and objects there are

-- a datum: its symbol is one of so many, its object stands from the first on and before the end
abbrev pub IsGood : (symbols first end : ℕ) → Val → Type 0
IsGood symbols first end (Int z) = in_range z ≡ true
IsGood symbols first end (Char c) = IsScalar c
IsGood symbols first end (Sym s) = number_of s < symbols
IsGood symbols first end (Ref o) = (first ≤ index_of o) × (index_of o < end)

abbrev pub IsInFile : Option Place → Type 0
IsInFile None = Unit {0}
IsInFile (Some (File offset tail)) = Unit {0}
IsInFile (Some (Prelude name)) = ⊥

-- a cons at a place of the file, a vector or a string, the last two of at most so many elements
abbrev pub IsGoodObject : (most symbols first end : ℕ) → Object → Type 0
IsGoodObject most symbols first end (Cons car cdr place) = IsGood symbols first end car × IsGood symbols first end cdr × IsInFile place
IsGoodObject most symbols first end (Vector items) = Every (IsGood symbols first end) items × (length items ≤ most)
IsGoodObject most symbols first end (Str letters) = AreScalar letters × (length letters ≤ most)
IsGoodObject most symbols first end (Fun lambda cells) = ⊥
IsGoodObject most symbols first end (Cell v) = ⊥

module _ (first a b c d : ℕ) (g : a ≤ b) (h : c ≤ d) where
  good_stays : (v : Val) → IsGood a first c v → IsGood b first d v
  good_stays (Int z) k = k
  good_stays (Char x) k = k
  good_stays (Sym s) k = omega (arith, g, k)
  good_stays (Ref o) k = (k.0, omega (arith, h, k.1))

  object_stays : (most : ℕ) (x : Object) → IsGoodObject most a first c x → IsGoodObject most b first d x
  object_stays most (Cons car cdr place) k = (good_stays car k.0, good_stays cdr k.1, k.2)
  object_stays most (Vector items) k = (every_weaker (IsGood a first c) (IsGood b first d) good_stays items k.0, k.1)
  object_stays most (Str letters) k = k
  object_stays most (Fun lambda cells) k = k
  object_stays most (Cell v) k = k

-- ---- stocks

abbrev symbol_count : Stock → ℕ
symbol_count s = length s.symbols.symbols

abbrev object_count : Stock → ℕ
object_count s = length s.objects

-- there are no fewer symbols and objects
record More (s t : Stock) : Type 0 where
  symbols : symbol_count s ≤ symbol_count t
  objects : object_count s ≤ object_count t

more_same : (s : Stock) → More s s
more_same s = record { symbols = omega arith; objects = omega arith }

more_on : (s t u : Stock) → More s t → More t u → More s u
more_on s t u g h =
    let a = g.symbols in
    let b = h.symbols in
    let c = g.objects in
    let d = h.objects in
    record { symbols = omega (arith, a, b); objects = omega (arith, c, d) }

module _ (most : ℕ) (old : List Object) where
  abbrev pub Good : Stock → Val → Type 0
  Good s v = IsGood (symbol_count s) (length old) (object_count s) v

  abbrev pub GoodObject : Stock → Object → Type 0
  GoodObject s x = IsGoodObject most (symbol_count s) (length old) (object_count s) x

  -- the names of the prefixes are there, and behind the old objects stand good ones
  pub record IsBuilt (s : Stock) : Type 0 where
    pub names : 7 ≤ symbol_count s
    pub new : List Object
    pub is : s.objects ≡ old ++ new
    pub good : Every (GoodObject s) new

  good_on : (s t : Stock) → More s t → (v : Val) → Good s v → Good t v
  good_on s t g v h = good_stays (length old) (symbol_count s) (symbol_count t) (object_count s) (object_count t) g.symbols g.objects v h

  goods_on : (s t : Stock) → More s t → (vs : List Val) → Every (Good s) vs → Every (Good t) vs
  goods_on s t g vs h = every_weaker (Good s) (Good t) (good_on s t g) vs h

  objects_on : (s t : Stock) → More s t → (xs : List Object) → Every (GoodObject s) xs → Every (GoodObject t) xs
  objects_on s t g xs h =
      every_weaker (GoodObject s) (GoodObject t)
      (object_stays (length old) (symbol_count s) (symbol_count t) (object_count s) (object_count t) g.symbols g.objects most) xs h

  -- the value that is made is good, and the stock after it is built
  record Makes (s : Stock) (v : Val) (t : Stock) : Type 0 where
    built : IsBuilt t
    more : More s t
    good : Good t v

  abbrev MakesIt : Stock → Val × Stock → Type 0
  MakesIt s r = Makes s r.0 r.1

  makes_after : (s t : Stock) (v : Val) (u : Stock) → More s t → Makes t v u → Makes s v u
  makes_after s t v u g m = record { built = m.built; more = more_on s t u g m.more; good = m.good }

  -- ---- objects

  push_count : (objects : List Object) (x : Object) → length (objects ++ x ∷ []) ≡ length objects + 1
  push_count objects x = length-append objects (x ∷ [])

  object_made : (symbols : Table) (objects : List Object) (x : Object) → IsBuilt (stock symbols objects) → GoodObject (stock symbols objects) x
      → Makes (stock symbols objects) (Ref (object_id (length objects))) (stock symbols (objects ++ x ∷ []))
  object_made symbols objects x built h =
      let count = push_count objects x in
      let before = ap length built.is ∙ length-append old built.new in
      let g : More (stock symbols objects) (stock symbols (objects ++ x ∷ [])) = record { symbols = omega arith; objects = omega (arith, count) } in
      record {
        built = record {
          names = built.names;
          new = built.new ++ x ∷ [];
          is = ap (λ (xs : List Object). xs ++ x ∷ []) built.is ∙ append_assoc old built.new (x ∷ []);
          good = objects_on (stock symbols objects) (stock symbols (objects ++ x ∷ [])) g (built.new ++ x ∷ []) (every_append (GoodObject (stock symbols objects)) built.new (x ∷ []) built.good (h, tt));
        };
        more = g;
        good = (omega (arith, before), omega (arith, count));
      }

  chain_made : (at k : ℕ) (vs : List Val) (tail : Val) (symbols : Table) (objects : List Object) → IsBuilt (stock symbols objects) → Every (Good (stock symbols objects)) vs
      → Good (stock symbols objects) tail → MakesIt (stock symbols objects) (with_symbols symbols (chain at k vs tail objects))
  chain_made at k [] tail symbols objects built hs h = record { built = built; more = more_same _; good = h }
  chain_made at k (v ∷ vs) tail symbols objects built hs h =
      let rest = chain_made at (k + 1) vs tail symbols objects built hs.1 h in
      let under = stock symbols (chain at (k + 1) vs tail objects).1 in
      makes_after (stock symbols objects) under _ _ rest.more
      (object_made symbols (chain at (k + 1) vs tail objects).1 (Cons v (chain at (k + 1) vs tail objects).0 (Some (File at k))) rest.built
      (good_on (stock symbols objects) under rest.more v hs.0, rest.good, tt))

  -- ---- symbols

  record Named (before after : Table) (s : SymId) : Type 0 where
    more : length before.symbols ≤ length after.symbols
    there : number_of s < length after.symbols

  abbrev NamedIn : Table → SymId × Table → Type 0
  NamedIn t found = Named t found.1 found.0

  named_new : (b : Bool) (x : Symbol) (fresh : ℕ) (t : Table) (found : SymId × Table)
      → (if b then Some (symbol_id (length t.symbols), make_table (t.symbols ++ x ∷ []) fresh) else None) ≡ Some found → NamedIn t found
  named_new true x fresh t found e =
      let count : length (t.symbols ++ x ∷ []) ≡ length t.symbols + 1 = length-append t.symbols (x ∷ []) in
      subst (NamedIn t) (some_inj e) (record { more = omega (arith, count); there = omega (arith, count) })
  named_new false x fresh t found e = absurd (cc)

  named_found : (name : List ℕ) (kind : SymKind) (t : Table) (o : Option ℕ) → position (is_symbol name kind) t.symbols ≡ o → (found : SymId × Table)
      → found_or_added o (make_symbol name kind) t ≡ Some found → NamedIn t found
  named_found name kind t None is found e = named_new (nat_lt (length t.symbols) most_symbols) (make_symbol name kind) t.fresh t found e
  named_found name kind t (Some n) is found e =
      subst (NamedIn t) (some_inj e)
      (record { more = omega arith; there = (position-Some (is_symbol name kind) t.symbols n (make_symbol name kind) is).0 })

  named_made : (name : List ℕ) (kind : SymKind) (s : Stock) → IsBuilt s → (r : Val × Stock) → named name kind s ≡ Some r → MakesIt s r
  named_made name kind s built r e =
      let f = bound_there (interned (encode_utf8_all name) kind s.symbols) (λ found. Some (symbol_value s.objects found)) r e in
      let h = named_found (encode_utf8_all name) kind s.symbols (position (is_symbol (encode_utf8_all name) kind) s.symbols.symbols) refl f.0 f.1 in
      let more = h.more in
      let names = built.names in
      let t = stock f.0.1 s.objects in
      let g : More s t = record { symbols = more; objects = omega arith } in
      subst (MakesIt s) (some_inj f.2)
      (record {
        built = record { names = omega (arith, more, names); new = built.new; is = built.is; good = objects_on s t g built.new built.good };
        more = g;
        good = h.there;
      })

  -- ---- atoms

  atom_made : (a : Atom) (s : Stock) → IsBuilt s → FineAtom most a → (r : Val × Stock) → atom_value a s ≡ Some r → MakesIt s r
  unfolding atom_value
  atom_made (integer n) s built h r e = subst (MakesIt s) (some_inj e) (record { built = built; more = more_same s; good = h })
  atom_made (character c) s built h r e = subst (MakesIt s) (some_inj e) (record { built = built; more = more_same s; good = h })
  atom_made (string letters) s built h r e = subst (MakesIt s) (some_inj e) (object_made s.symbols s.objects (Str letters) built h)
  atom_made (symbol name) s built h r e = named_made name kinds.Plain s built r e
  atom_made (keyword name) s built h r e = named_made name kinds.Keyword s built r e

  -- ---- trees

  prefix_good : (s : Stock) → 7 ≤ symbol_count s → (f : Prefix) → Good s (prefix_symbol f)
  prefix_good s h p.Quote = omega (arith, h)
  prefix_good s h p.Function = omega (arith, h)
  prefix_good s h p.Backquote = omega (arith, h)
  prefix_good s h p.Comma = omega (arith, h)
  prefix_good s h p.Splice = omega (arith, h)

  nil_good : (s : Stock) → 7 ≤ symbol_count s → Good s nil
  nil_good s h = omega (arith, h)

  prefix_made : (at : ℕ) (f : Prefix) (s : Stock) (v : Val × Stock) → MakesIt s v → MakesIt s (prefix_value at f v)
  prefix_made at f s v m =
      let names = m.built.names in
      makes_after s v.1 _ _ m.more
      (chain_made at 0 (prefix_symbol f ∷ v.0 ∷ []) nil v.1.symbols v.1.objects m.built (prefix_good v.1 names f, (m.good, tt)) (nil_good v.1 names))

  -- at most so many values, each of them good
  record MakesAll (s : Stock) (many : ℕ) (vs : List Val) (t : Stock) : Type 0 where
    built : IsBuilt t
    more : More s t
    good : Every (Good t) vs
    short : length vs ≤ many

  abbrev MakesThem : Stock → ℕ → List Val × Stock → Type 0
  MakesThem s many r = MakesAll s many r.0 r.1

  list_made : (at : ℕ) (many : ℕ) (s : Stock) (vs : List Val × Stock) → MakesThem s many vs → MakesIt s (list_value at nil vs)
  list_made at many s vs m =
      makes_after s vs.1 _ _ m.more (chain_made at 0 vs.0 nil vs.1.symbols vs.1.objects m.built m.good (nil_good vs.1 m.built.names))

  dotted_made : (at : ℕ) (many : ℕ) (s : Stock) (vs : List Val × Stock) (v : Val × Stock) → MakesThem s many vs → MakesIt vs.1 v → MakesIt s (list_value at v.0 (vs.0, v.1))
  dotted_made at many s vs v m k =
      makes_after s v.1 _ _ (more_on s vs.1 v.1 m.more k.more)
      (chain_made at 0 vs.0 v.0 v.1.symbols v.1.objects k.built (goods_on vs.1 v.1 k.more vs.0 m.good) k.good)

  vector_made : (s : Stock) (many : ℕ) (vs : List Val × Stock) → many ≤ most → MakesThem s many vs → MakesIt s (vector_value vs)
  vector_made s many vs le m =
      let short = m.short in
      makes_after s vs.1 _ _ m.more (object_made vs.1.symbols vs.1.objects (Vector vs.0) m.built (m.good, omega (arith, short, le)))

  pushed_made : (s : Stock) (many : ℕ) (vs : List Val × Stock) (v : Val × Stock) → MakesThem s many vs → MakesIt vs.1 v → MakesThem s (many + 1) (pushed vs.0 v)
  pushed_made s many vs v m k =
      let short = m.short in
      let count : length (vs.0 ++ v.0 ∷ []) ≡ length vs.0 + 1 = length-append vs.0 (v.0 ∷ []) in
      record {
        built = k.built;
        more = more_on s vs.1 v.1 m.more k.more;
        good = every_append (Good v.1) vs.0 (v.0 ∷ []) (goods_on vs.1 v.1 k.more vs.0 m.good) (k.good, tt);
        short = omega (arith, short, count);
      }

  more_room : (s : Stock) (few many : ℕ) (r : List Val × Stock) → few ≤ many → MakesThem s few r → MakesThem s many r
  more_room s few many r le m = let short = m.short in record { built = m.built; more = m.more; good = m.good; short = omega (arith, short, le) }

  written : (x : Tree) → 1 ≤ length (writing x)
  written (leaf o a) = omega arith
  written (prefixed o f x) = omega arith
  written (list o xs c) = omega arith
  written (dotted o xs d x c) = omega arith
  written (vector_of o xs c) = omega arith

  -- the tokens are fine, and not too many
  record Written (ts : List Placed) : Type 0 where
    fine : Every (FinePlaced most) ts
    short : length ts ≤ most

  first_written : (xs ys : List Placed) → Written (xs ++ ys) → Written xs
  first_written xs ys w =
      let short = w.short in let count = length-append xs ys in record { fine = every_left (FinePlaced most) xs ys w.fine; short = omega (arith, short, count) }

  last_written : (xs ys : List Placed) → Written (xs ++ ys) → Written ys
  last_written xs ys w =
      let short = w.short in let count = length-append xs ys in record { fine = every_right (FinePlaced most) xs ys w.fine; short = omega (arith, short, count) }

  rest_written : (t : Placed) (ts : List Placed) → Written (t ∷ ts) → Written ts
  rest_written t ts w = let short = w.short in record { fine = w.fine.1; short = omega (arith, short) }

  mutual
    tree_made : (x : Tree) (s : Stock) → IsBuilt s → Written (writing x) → (r : Val × Stock) → value x s ≡ Some r → MakesIt s r
    tree_made (leaf o a) s built w r e = atom_made a s built w.fine.0 r e
    tree_made (prefixed o f x) s built w r e =
        let v = bound_there (value x s) (λ v. Some (prefix_value o f v)) r e in
        subst (MakesIt s) (some_inj v.2)
        (prefix_made o f s v.0 (tree_made x s built (rest_written (placed o (prefix f)) (writing x) w) v.0 v.1))
    tree_made (list o xs c) s built w r e =
        let vs = bound_there (values xs s) (λ vs. Some (list_value o nil vs)) r e in
        let inside = rest_written (placed o opening) (writings xs ++ placed c closing ∷ []) w in
        subst (MakesIt s) (some_inj vs.2)
        (list_made o (length (writings xs)) s vs.0 (trees_made xs s built (first_written (writings xs) (placed c closing ∷ []) inside) vs.0 vs.1))
    tree_made (dotted o xs d x c) s built w r e =
        let vs = bound_there (values xs s) (λ vs. bound (value x vs.1) (λ v. Some (list_value o v.0 (vs.0, v.1)))) r e in
        let v = bound_there (value x vs.0.1) (λ v. Some (list_value o v.0 (vs.0.0, v.1))) r vs.2 in
        let inside = rest_written (placed o opening) (writings xs ++ (placed d dot ∷ (writing x ++ placed c closing ∷ []))) w in
        let behind = rest_written (placed d dot) (writing x ++ placed c closing ∷ []) (last_written (writings xs) (placed d dot ∷ (writing x ++ placed c closing ∷ [])) inside) in
        let many = trees_made xs s built (first_written (writings xs) (placed d dot ∷ (writing x ++ placed c closing ∷ [])) inside) vs.0 vs.1 in
        subst (MakesIt s) (some_inj v.2)
        (dotted_made o (length (writings xs)) s vs.0 v.0 many (tree_made x vs.0.1 many.built (first_written (writing x) (placed c closing ∷ []) behind) v.0 v.1))
    tree_made (vector_of o xs c) s built w r e =
        let vs = bound_there (values xs s) (λ vs. Some (vector_value vs)) r e in
        let inside = first_written (writings xs) (placed c closing ∷ []) (rest_written (placed o vector) (writings xs ++ placed c closing ∷ []) w) in
        subst (MakesIt s) (some_inj vs.2) (vector_made s (length (writings xs)) vs.0 inside.short (trees_made xs s built inside vs.0 vs.1))

    trees_made : (xs : Trees) (s : Stock) → IsBuilt s → Written (writings xs) → (r : List Val × Stock) → values xs s ≡ Some r → MakesThem s (length (writings xs)) r
    trees_made none s built w r e =
        subst (MakesThem s (length (writings none))) (some_inj e) (record { built = built; more = more_same s; good = tt; short = omega arith })
    trees_made (also xs x) s built w r e =
        let vs = bound_there (values xs s) (λ vs. bound (value x vs.1) (λ v. Some (pushed vs.0 v))) r e in
        let v = bound_there (value x vs.0.1) (λ v. Some (pushed vs.0.0 v)) r vs.2 in
        let many = trees_made xs s built (first_written (writings xs) (writing x) w) vs.0 vs.1 in
        let last = tree_made x vs.0.1 many.built (last_written (writings xs) (writing x) w) v.0 v.1 in
        let count = length-append (writings xs) (writing x) in
        let some = written x in
        subst (MakesThem s (length (writings (also xs x)))) (some_inj v.2)
        (more_room s (length (writings xs) + 1) (length (writings (also xs x))) (pushed vs.0.0 v.0) (omega (arith, count, some))
        (pushed_made s (length (writings xs)) vs.0 v.0 many last))

  -- ---- forms

  -- each form is good
  pub record ReadsGood (s : Stock) (fs : List TopRead) (t : Stock) : Type 0 where
    pub built : IsBuilt t
    more : More s t
    pub good : Every (λ f. Good t f.form) fs

  abbrev pub ReadsThem : Stock → List TopRead × Stock → Type 0
  ReadsThem s r = ReadsGood s r.0 r.1

  form_pushed : (s : Stock) (fs : List TopRead × Stock) (at : ℕ) (v : Val × Stock) → ReadsThem s fs → MakesIt fs.1 v → ReadsThem s (fs.0 ++ top_form at v.0 ∷ [], v.1)
  form_pushed s fs at v m k = record {
    built = k.built;
    more = more_on s fs.1 v.1 m.more k.more;
    good = every_append (λ f. Good v.1 f.form) fs.0 (top_form at v.0 ∷ [])
        (every_weaker (λ f. Good fs.1 f.form) (λ f. Good v.1 f.form) (λ f h. good_on fs.1 v.1 k.more f.form h) fs.0 m.good) (k.good, tt);
  }

  forms_good : (xs : Trees) (s : Stock) → IsBuilt s → Written (writings xs) → (r : List TopRead × Stock) → forms xs s ≡ Some r → ReadsThem s r
  forms_good none s built w r e = subst (ReadsThem s) (some_inj e) (record { built = built; more = more_same s; good = tt })
  forms_good (also xs x) s built w r e =
      let fs = bound_there (forms xs s) (λ fs. bound (value x fs.1) (λ v. Some (fs.0 ++ top_form (start x) v.0 ∷ [], v.1))) r e in
      let v = bound_there (value x fs.0.1) (λ v. Some (fs.0.0 ++ top_form (start x) v.0 ∷ [], v.1)) r fs.2 in
      let front = forms_good xs s built (first_written (writings xs) (writing x) w) fs.0 fs.1 in
      subst (ReadsThem s) (some_inj v.2)
      (form_pushed s fs.0 (start x) v.0 front (tree_made x fs.0.1 front.built (last_written (writings xs) (writing x) w) v.0 v.1))

  -- fine tokens read as good forms
  pub texts_good : (xs : Trees) (s : Stock) → IsBuilt s → Every (FinePlaced most) (writings xs) → length (writings xs) ≤ most → (r : List TopRead × Stock) → forms xs s ≡ Some r → ReadsThem s r
  texts_good xs s built fine short r e = forms_good xs s built (record { fine = fine; short = short }) r e

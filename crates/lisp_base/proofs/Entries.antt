-- Entries of the symbol table and the symbols that they are.
use Rattle.std.proofs.Common.{◌≡◌, ◌<◌, ◌≤◌, ◌+◌, ℕ, Bool, true, false, cond, ◌&&◌, List, [], ◌∷◌, ◌++◌, length, Some, None, refl, ap, sym, ◌∙◌, subst, if◌then◌else◌, arith, eqb, nat_lt, string_bytes, not}
use Rattle.std.proofs.lemmas.Bool.{false≢true, lt-ltb, le-ltb}
use Rattle.std.specs.List.{list_any, position, position_or_len}
use Rattle.std.specs.Str.{bytes_eq}
use Rattle.std.proofs.lemmas.List.Elements.{All-push, All-weaker}
use Rattle.std.proofs.lemmas.List.Folds.{list_any_none}
use Rattle.std.proofs.lemmas.List.{length-map, map-append, length-append, append-nil, append_assoc}
use Rattle.lisp_base.specs.declared.values.SymKind.{SymKind}
use Rattle.lisp_base.specs.declared.values.SymKind.TheVariants as kinds
use Rattle.lisp_base.specs.contracts.symbols.EntryPartialEq.TheImpl.{eq-value}
use Rattle.lisp_base.specs.declared.symbols.Entry.{Entry}
use Rattle.lisp_base.specs.declared.symbols.Entry.TheVariants as entry
use Rattle.lisp_base.specs.Sort.{symbol}
use Rattle.lisp_base.specs.Tables.{added, interned, found_or_added, Symbol, make_symbol, is_symbol, is_interned, make_table, most_symbols, first_table, base_symbols, BeginsWithNames}
use Rattle.lisp_base.specs.Kept.{symbol_of, symbols_of, same_entry, IsNumberedBelow, AllNumberedBelow, IsKept}
use Rattle.lisp_base.proofs.BaseTable.{with_name, few_base_names}
use Rattle.indexmap.specs.IndexSet.{insert_key}

-- an interned entry is found by its name and kind
and_true : (b : Bool) → b ≡ (b && true)
and_true true = refl
and_true false = refl

and_false : (b : Bool) → false ≡ (b && false)
and_false true = refl
and_false false = refl

pub found_by_name : (e : Entry) (name : List ℕ) (kind : SymKind) → is_interned kind ≡ true → symbol_of e ≡ make_symbol name kind → (k : Entry) → same_entry e k ≡ is_symbol name kind (symbol_of k)
found_by_name e name kind h is k = by e (subst (λ (q : SymKind). is_interned q ≡ true) (sym (ap (λ (s : Symbol). s.kind) is)) h) k ∙ ap (λ (s : Symbol). is_symbol s.name s.kind (symbol_of k)) is
  where
    by : (e : Entry) → is_interned (symbol_of e).kind ≡ true → (k : Entry) → same_entry e k ≡ is_symbol (symbol_of e).name (symbol_of e).kind (symbol_of k)
    by (entry.Plain a) h (entry.Plain b) = and_true _
    by (entry.Plain a) h (entry.Keyword b) = and_false _
    by (entry.Plain a) h (entry.Fresh b n) = and_false _
    by (entry.Keyword a) h (entry.Plain b) = and_false _
    by (entry.Keyword a) h (entry.Keyword b) = and_true _
    by (entry.Keyword a) h (entry.Fresh b n) = and_false _
    by (entry.Fresh a m) h k = absurd (cc)

module _ (p : Entry → Bool) (q : Symbol → Bool) (same : (e : Entry) → p e ≡ q (symbol_of e)) where
  pub list_any-symbols : (es : List Entry) → list_any p es ≡ list_any q (symbols_of es)
  list_any-symbols [] = refl
  list_any-symbols (e ∷ es) = cc (same e, list_any-symbols es)

  position_or_len-symbols : (es : List Entry) → position_or_len p es ≡ position_or_len q (symbols_of es)
  position_or_len-symbols [] = refl
  position_or_len-symbols (e ∷ es) = λ i. cond (not (same e i)) (1 + position_or_len-symbols es i) 0

  pub position-symbols : (es : List Entry) → position p es ≡ position q (symbols_of es)
  position-symbols es =
      ap (λ n. cond (nat_lt n (length es)) (Some n) None) (position_or_len-symbols es)
      ∙ ap (λ l. cond (nat_lt (position_or_len q (symbols_of es)) l) (Some (position_or_len q (symbols_of es))) None) (sym (length-map es symbol_of))

-- the test that `==` makes is the stated one
pub eq-same_entry : (e k : Entry) → eq-value.it e k ≡ same_entry e k
eq-same_entry (entry.Plain a) (entry.Plain b) = refl
eq-same_entry (entry.Plain a) (entry.Keyword b) = refl
eq-same_entry (entry.Plain a) (entry.Fresh b n) = refl
eq-same_entry (entry.Keyword a) (entry.Plain b) = refl
eq-same_entry (entry.Keyword a) (entry.Keyword b) = refl
eq-same_entry (entry.Keyword a) (entry.Fresh b n) = refl
eq-same_entry (entry.Fresh a m) (entry.Plain b) = refl
eq-same_entry (entry.Fresh a m) (entry.Keyword b) = refl
eq-same_entry (entry.Fresh a m) (entry.Fresh b n) = refl

-- a new number is no entry's
pub new_number : (es : List Entry) (name : _) (n : ℕ) → AllNumberedBelow n es → list_any (same_entry (entry.Fresh name n)) es ≡ false
new_number es name n h = list_any_none _ es (All-weaker (IsNumberedBelow n) (λ e. same_entry (entry.Fresh name n) e ≡ false) (other n) es h)
  where
    other : (n : ℕ) (e : Entry) → IsNumberedBelow n e → same_entry (entry.Fresh name n) e ≡ false
    other n (entry.Plain b) h = refl
    other n (entry.Keyword b) h = refl
    other n (entry.Fresh b m) h = let differ : eqb n m ≡ false = grind arith in ap (λ t. bytes_eq (string_bytes name) (string_bytes b) && t) differ ∙ sym (and_false _)

numbered_higher : (n : ℕ) (e : Entry) → IsNumberedBelow n e → IsNumberedBelow (n + 1) e
numbered_higher n (entry.Plain b) h = tt
numbered_higher n (entry.Keyword b) h = tt
numbered_higher n (entry.Fresh b m) h = omega arith

-- a list of symbols that begins with the base names' still does so with one more
begins_more : (es new : List Entry) (e : Entry) → BeginsWithNames (symbols_of es) → new ≡ es ++ e ∷ [] → BeginsWithNames (symbols_of new)
begins_more es new e begins is =
    (begins.0 ++ symbol_of e ∷ [], ap symbols_of is ∙ (map-append symbol_of es (e ∷ []) ∙ (ap (λ ss. ss ++ symbol_of e ∷ []) begins.1 ∙ append_assoc base_symbols begins.0 (symbol_of e ∷ []))))

-- a table with one more entry keeps what is so of every table
pub kept_more : (es new : List Entry) (e : Entry) (fresh after : ℕ) → IsKept es fresh → length es < most_symbols → after ≤ length es + 1 → IsNumberedBelow (length es + 1) e → new ≡ es ++ e ∷ [] → IsKept new after
kept_more es new e fresh after kept room counted numbered is =
    let longer : length new ≡ length es + 1 = ap length is ∙ simp length-append in
    record {
      few = omega arith;
      counted = omega arith;
      begins = begins_more es new e kept.begins is;
      numbered = subst (λ (m : ℕ). AllNumberedBelow m new) (sym longer) (subst (AllNumberedBelow (length es + 1)) (sym is) (All-push (IsNumberedBelow (length es + 1)) es e (All-weaker (IsNumberedBelow (length es)) (IsNumberedBelow (length es + 1)) (numbered_higher (length es)) es kept.numbered) numbered));
    }

pub interned_number : (n : ℕ) (e : Entry) (name : List ℕ) (kind : SymKind) → is_interned kind ≡ true → symbol_of e ≡ make_symbol name kind → IsNumberedBelow n e
interned_number n (entry.Plain b) name kind h is = tt
interned_number n (entry.Keyword b) name kind h is = tt
interned_number n (entry.Fresh b m) name kind h is =
    let k : false ≡ true = ap (λ (s : Symbol). is_interned s.kind) is ∙ h in absurd (false≢true k)

-- where there is room, and where there is none
pub added_last : (es new : List Entry) (e : Entry) (fresh after : ℕ) → length es < most_symbols → new ≡ es ++ e ∷ [] → added (symbol_of e) after (make_table (symbols_of es) fresh) ≡ Some (symbol (length es), make_table (symbols_of new) after)
added_last es new e fresh after room is =
    let long : length (symbols_of es) ≡ length es = length-map es symbol_of in
    let fits : nat_lt (length (symbols_of es)) most_symbols ≡ true = lt-ltb _ _ (subst (λ (n : ℕ). n < most_symbols) (sym long) room) in
    let here : symbols_of new ≡ symbols_of es ++ symbol_of e ∷ [] = ap symbols_of is ∙ map-append symbol_of es (e ∷ []) in
    ap (λ b. if b then Some (symbol (length (symbols_of es)), make_table (symbols_of es ++ symbol_of e ∷ []) after) else None) fits
    ∙ (ap (λ n. Some (symbol n, make_table (symbols_of es ++ symbol_of e ∷ []) after)) long
    ∙ ap (λ ss. Some (symbol (length es), make_table ss after)) (sym here))

pub none_added : (es : List Entry) (s : Symbol) (fresh after : ℕ) → most_symbols ≤ length es → added s after (make_table (symbols_of es) fresh) ≡ None
none_added es s fresh after full =
    let long : length (symbols_of es) ≡ length es = length-map es symbol_of in
    let fails : nat_lt (length (symbols_of es)) most_symbols ≡ false = le-ltb _ _ (subst (λ (n : ℕ). most_symbols ≤ n) (sym long) full) in
    ap (λ b. if b then Some (symbol (length (symbols_of es)), make_table (symbols_of es ++ s ∷ []) after) else None) fails

module _ (e : Entry) (name : List ℕ) (kind : SymKind) (h : is_interned kind ≡ true) (is : symbol_of e ≡ make_symbol name kind) (es : List Entry) (fresh : ℕ) where
  place : position (eq-value.it e) es ≡ position (is_symbol name kind) (symbols_of es)
  place = position-symbols (eq-value.it e) (is_symbol name kind) (λ k. eq-same_entry e k ∙ found_by_name e name kind h is k) es

  pub interned_found : (i : ℕ) → position (eq-value.it e) es ≡ Some i → interned name kind (make_table (symbols_of es) fresh) ≡ Some (symbol i, make_table (symbols_of es) fresh)
  interned_found i at = ap (λ o. found_or_added o (make_symbol name kind) (make_table (symbols_of es) fresh)) (sym place ∙ at)

  pub interned_new : position (eq-value.it e) es ≡ None → interned name kind (make_table (symbols_of es) fresh) ≡ added (symbol_of e) fresh (make_table (symbols_of es) fresh)
  interned_new at = ap (λ o. found_or_added o (make_symbol name kind) (make_table (symbols_of es) fresh)) (sym place ∙ at) ∙ ap (λ s. added s fresh (make_table (symbols_of es) fresh)) (sym is)

pub list_any-eq : (e : Entry) (es : List Entry) → list_any (eq-value.it e) es ≡ list_any (same_entry e) es
list_any-eq e es = λ i. list_any (λ k. eq-same_entry e k i) es

-- a new entry goes last
pub inserted_new : (e : Entry) (es new : List Entry) → list_any (same_entry e) es ≡ false → new ≡ insert_key eq-value.it es e → new ≡ es ++ e ∷ []
inserted_new e es new fresh is = is ∙ ap (λ b. if b then es else es ++ e ∷ []) (list_any-eq e es ∙ fresh)

-- what the use of a plain name adds
pub inserted_name : (e : Entry) (name : List ℕ) (es new : List Entry) → symbol_of e ≡ make_symbol name kinds.Plain → new ≡ insert_key eq-value.it es e → symbols_of new ≡ with_name (symbols_of es) name
inserted_name e name es new is made =
    let found : list_any (eq-value.it e) es ≡ list_any (is_symbol name kinds.Plain) (symbols_of es) = list_any-symbols (eq-value.it e) (is_symbol name kinds.Plain) (λ k. eq-same_entry e k ∙ found_by_name e name kinds.Plain refl is k) es in
    ap symbols_of made ∙ (ap (λ b. symbols_of (if b then es else es ++ e ∷ [])) found ∙ by (list_any (is_symbol name kinds.Plain) (symbols_of es)))
  where
    by : (b : Bool) → symbols_of (if b then es else es ++ e ∷ []) ≡ (if b then symbols_of es else symbols_of es ++ make_symbol name kinds.Plain ∷ [])
    by true = refl
    by false = map-append symbol_of es (e ∷ []) ∙ ap (λ s. symbols_of es ++ s ∷ []) is

-- entries of interned symbols alone stay so
pub numbered_insert : (e : Entry) (es new : List Entry) → IsNumberedBelow 0 e → AllNumberedBelow 0 es → new ≡ insert_key eq-value.it es e → AllNumberedBelow 0 new
numbered_insert e es new one all made = subst (AllNumberedBelow 0) (sym made) (by (list_any (eq-value.it e) es))
  where
    by : (b : Bool) → AllNumberedBelow 0 (if b then es else es ++ e ∷ [])
    by true = all
    by false = All-push (IsNumberedBelow 0) es e all one

numbered_from_zero : (n : ℕ) (e : Entry) → IsNumberedBelow 0 e → IsNumberedBelow n e
numbered_from_zero n (entry.Plain b) h = tt
numbered_from_zero n (entry.Keyword b) h = tt
numbered_from_zero n (entry.Fresh b m) h = omega arith

pub kept_first : (es : List Entry) → symbols_of es ≡ first_table.symbols → AllNumberedBelow 0 es → IsKept es 0
kept_first es is all = record {
  few = subst (λ (n : ℕ). n ≤ most_symbols) (ap length (sym is) ∙ length-map es symbol_of) few_base_names;
  counted = omega arith;
  begins = ([], is ∙ sym (append-nil first_table.symbols));
  numbered = All-weaker (IsNumberedBelow 0) (IsNumberedBelow (length es)) (numbered_from_zero (length es)) es all;
}

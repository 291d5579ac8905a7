-- The rows count how often live forms name them, after each change.
use Rattle.std.proofs.Common.{◌≡◌, ◌≢◌, ℕ, zero, suc, ◌+◌, ◌<◌, ◌^◌, Bool, true, false, cond, List, [], ◌∷◌, Option, Some, None, IsSome, IsTrue, length, get_or, option_map, refl, sym, subst, ◌∙◌, ap, arith, ◌⊎◌, inl, inr}
use Rattle.std.specs.List.{list_any}
use Rattle.std.specs.Prelude.{slice_get, ◌==◌}
use Rattle.std.proofs.Math.Seq.{map-set_same}
use Rattle.std.proofs.lemmas.Option.{slice_get_past}
use Rattle.gl_arena.specs.Id.{Id, same_id}
use Rattle.gl_arena.specs.Arena.{Arena, named, stamped, with_value, IsStamped, Gives, Ends}
use Rattle.gl_arena.specs.Mapped.{mapped_slot}
use Rattle.gl_arena.proofs.Ids.{id_cases, same_id-refl, same_id-other}
use Rattle.gl_arena.proofs.Values.{with_value-writes, Writes}
use Rattle.gl_arena.proofs.Mapped.{named-mapped, are_stamped-mapped, gives-mapped, ends-mapped}
use Rattle.gl_arena.proofs.Stamps.{written-stamped}
use Rattle.gl_refs.specs.Forms.{Form, Look, parts, Each, AreLower, IsUnread}
use Rattle.gl_refs.specs.State as s
use Rattle.gl_refs.specs.State.{forms}
use Rattle.gl_refs.specs.View.{rows_in, rows_of, seen_row, seen_kind, kind_with}
use Rattle.gl_refs.specs.Counting.{once, times, lists, readers, Counts, Fits}
use Rattle.gl_value.specs.declared.value.Value.{Value}
use Rattle.gl_refs.specs.declared.row.Row.{Row}
use Rattle.gl_refs.specs.declared.row.Kind.{Kind}
use Rattle.gl_refs.specs.declared.row.Kind.TheVariants.{Constant, Source, Position, Bound}
use Rattle.gl_refs.proofs.Rows.{some_is}
use Rattle.gl_refs.proofs.Totals.{times_none, none_times, times_most, total_gives, total_ends, total_same, total_one, total_none}

-- what a row names
abbrev pub names : Row → List Id
names r = parts (seen_kind r.kind)

abbrev pub lists_in : Arena Row → Arena (List Id)
lists_in a = lists (rows_in a)

pub named_lists : (a : Arena Row) (i : Id) → named (lists_in a) i ≡ option_map names (named a i)
named_lists a i = named-mapped (λ (r : s.Row). parts r.form) (rows_in a) i ∙ (ap (option_map (λ (r : s.Row). parts r.form)) (named-mapped seen_row a i) ∙ both (named a i)) where
  both : (o : Option Row) → option_map (λ (r : s.Row). parts r.form) (option_map seen_row o) ≡ option_map names o
  both None = refl
  both (Some r) = refl

lists_stamped : (a : Arena Row) → IsStamped a → IsStamped (lists_in a)
lists_stamped a st = are_stamped-mapped (λ (r : s.Row). parts r.form) (rows_in a) (are_stamped-mapped seen_row a st)

-- what is live, by its list
record HasRow (o : Option Row) (xs : List Id) : Type 0 where
  row : Row
  is : o ≡ Some row
  names_are : names row ≡ xs

row_of : (o : Option Row) (xs : List Id) → option_map names o ≡ Some xs → HasRow o xs
row_of None xs e = absurd (let n : None ≡ Some xs = e in cc)
row_of (Some r) xs e = record { row = r; is = refl; names_are = some_list (names r) xs e } where
  some_list : (x y : List Id) → Some x ≡ Some y → x ≡ y
  some_list x y e = cc

-- the form of a live row
form_of : (a : Arena Row) (i : Id) (r : Row) → named a i ≡ Some r → forms (rows_of a) i ≡ Some (seen_kind r.kind)
form_of a i r e = ap (λ o. option_map (λ (q : s.Row). q.form) (option_map seen_row o)) e

module _ (a : Arena Row) (c : Id) (st : IsStamped a) where
  pub unread_none : IsUnread (forms (rows_of a)) c → readers (rows_in a) c ≡ 0
  unread_none h = total_none (lists_in a) c (lists_stamped a st) (λ i xs e. by i xs (row_of (named a i) xs (sym (named_lists a i) ∙ e))) where
    by : (i : Id) (xs : List Id) → HasRow (named a i) xs → times c xs ≡ 0
    by i xs q = subst (λ x. times c x ≡ 0) q.names_are (times_none c (names q.row) (h i (seen_kind q.row.kind) (form_of a i q.row q.is)))

  pub none_unread : readers (rows_in a) c ≡ 0 → IsUnread (forms (rows_of a)) c
  none_unread h i g e = by (named a i) refl e where
    by : (o : Option Row) → named a i ≡ o → option_map (λ (q : s.Row). q.form) (option_map seen_row o) ≡ Some g → list_any (same_id c) (parts g) ≡ false
    by None q e = absurd (let n : None ≡ Some g = e in cc)
    by (Some r) q e =
        let le = total_one (lists_in a) c (lists_stamped a st) i (names r) (named_lists a i ∙ ap (option_map names) q) in
        let z : readers (rows_in a) c ≡ 0 = h in
        let some : (x y : Form) → Some x ≡ Some y → x ≡ y = λ x y e. cc in
        subst (λ x. list_any (same_id c) (parts x) ≡ false) (some (seen_kind r.kind) g e) (none_times c (names r) (omega (arith, le, z)))

-- what is not there is named by none
vacant_unread : (l : Look) (n : Id) → AreLower l → l n ≡ None → IsUnread l n
vacant_unread l n lower none i g e = apart (parts g) (lower i g e) where
  apart : (xs : List Id) → Each (λ q. (q.1 < i.1) × IsSome (l q)) xs → list_any (same_id n) xs ≡ false
  apart [] h = refl
  apart (x ∷ xs) h = rw (same_id-other n x (λ q. let no : false ≡ true = subst IsSome (ap l (sym q) ∙ none) h.0.1 in cc), apart xs h.1) refl

each_apart : (l : Look) (n : Id) → l n ≡ None → (xs : List Id) → Each (λ q. IsSome (l q)) xs → list_any (same_id n) xs ≡ false
each_apart l n none [] h = refl
each_apart l n none (x ∷ xs) h = rw (same_id-other n x (λ q. let no : false ≡ true = subst IsSome (ap l (sym q) ∙ none) h.0 in cc), each_apart l n none xs h.1) refl

-- a row is put in, of which all that it names was counted
pub counts_gives : (a b : Arena Row) (n : Id) (row : Row) → IsStamped a → AreLower (forms (rows_of a)) → Each (λ q. IsSome (forms (rows_of a) q)) (names row) → row.readers ≡ 0 → Gives a b n row → Counts a [] (names row) → Counts b [] []
counts_gives a b n row st lower live none g h c r e = by (id_cases c n) where
  vacant : forms (rows_of a) n ≡ None
  vacant = ap (λ o. option_map (λ (q : s.Row). q.form) (option_map seen_row o)) g.vacant

  gives : Gives (lists_in a) (lists_in b) n (names row)
  gives = gives-mapped (λ (r : s.Row). parts r.form) (rows_in a) (rows_in b) n (seen_row row) (gives-mapped seen_row a b n row g)

  sum : readers (rows_in b) c ≡ readers (rows_in a) c + times c (names row)
  sum = total_gives (lists_in a) (lists_in b) c n (names row) (lists_stamped a st) gives

  by : (c ≡ n) ⊎ (c ≢ n) → r.readers + 0 ≡ readers (rows_in b) c + 0
  by (inl q) =
      let same : row ≡ r = row_is row r (sym g.given ∙ (ap (named b) (sym q) ∙ e)) in
      let z : r.readers ≡ 0 = ap (λ (x : Row). x.readers) (sym same) ∙ none in
      let u : readers (rows_in a) c ≡ 0 = unread_none a c st (subst (IsUnread (forms (rows_of a))) (sym q) (vacant_unread (forms (rows_of a)) n lower vacant)) in
      let t : times c (names row) ≡ 0 = times_none c (names row) (subst (λ x. list_any (same_id x) (names row) ≡ false) (sym q) (each_apart (forms (rows_of a)) n vacant (names row) live)) in
      let total = sum in
      omega (arith, z, u, t, total) where
        row_is : (x y : Row) → Some x ≡ Some y → x ≡ y
        row_is x y e = cc
  by (inr ne) =
      let was : r.readers + 0 ≡ readers (rows_in a) c + times c (names row) = h c r (sym (g.others c ne) ∙ e) in
      let total = sum in
      omega (arith, was, total)

-- a row is taken out
pub counts_ends : (a b : Arena Row) (n : Id) (row : Row) → IsStamped a → named a n ≡ Some row → Ends a b n → Counts a [] [] → Counts b [] (names row)
counts_ends a b n row st is g h c r e =
    let ne : c ≢ n = λ q. let no : None ≡ Some r = sym g.ended ∙ (ap (named b) (sym q) ∙ e) in cc in
    let was : r.readers + 0 ≡ readers (rows_in a) c + 0 = h c r (sym (g.others c ne) ∙ e) in
    let ends = ends-mapped (λ (r : s.Row). parts r.form) (rows_in a) (rows_in b) n (ends-mapped seen_row a b n g) in
    let sum : readers (rows_in b) c + times c (names row) ≡ readers (rows_in a) c = total_ends (lists_in a) (lists_in b) c n (names row) (lists_stamped a st) (named_lists a n ∙ ap (option_map names) is) ends in
    omega (arith, was, sum)

abbrev both : Row → ℕ × List Id
both r = (r.readers, names r)

-- rows that name the same, and count the same
pub counts_same : (a b : Arena Row) → IsStamped a → IsStamped b → b.made ≡ a.made → ((i : Id) → option_map both (named b i) ≡ option_map both (named a i)) → Counts a [] [] → Counts b [] []
counts_same a b sa sb made same h c r e = by (named a c) refl where
  second : (o : Option Row) → option_map names o ≡ option_map (λ (p : ℕ × List Id). p.1) (option_map both o)
  second None = refl
  second (Some r) = refl

  sum : readers (rows_in b) c ≡ readers (rows_in a) c
  sum = total_same (lists_in a) (lists_in b) c (lists_stamped a sa) (lists_stamped b sb) made
      (λ i. named_lists b i ∙ (second (named b i) ∙ (ap (option_map (λ (p : ℕ × List Id). p.1)) (same i) ∙ (sym (second (named a i)) ∙ sym (named_lists a i)))))

  first : (x y : ℕ × List Id) → Some x ≡ Some y → x.0 ≡ y.0
  first x y e = let q : x ≡ y = cc in ap (λ (p : ℕ × List Id). p.0) q

  by : (o : Option Row) → named a c ≡ o → r.readers + 0 ≡ readers (rows_in b) c + 0
  by None q = absurd (let no : None ≡ Some (both r) = sym (ap (option_map both) q) ∙ (sym (same c) ∙ ap (option_map both) e) in cc)
  by (Some x) q =
      let n : x.readers ≡ r.readers = first (both x) (both r) (sym (ap (option_map both) q) ∙ (sym (same c) ∙ ap (option_map both) e)) in
      let was : x.readers + 0 ≡ readers (rows_in a) c + 0 = h c x q in
      let total = sum in
      omega (arith, n, was, total)

-- one row is written, which names and counts the same
pub counts_write : (a : Arena Row) (id : Id) (row new : Row) → IsStamped a → named a id ≡ Some row → new.readers ≡ row.readers → names new ≡ names row → Counts a [] [] → Counts (with_value a id new) [] []
counts_write a id row new st is count list h = counts_same a (with_value a id new) st (written-stamped a id new st live) refl at h where
  live : IsSome (named a id)
  live = subst IsSome (sym is) refl

  at : (i : Id) → option_map both (named (with_value a id new) i) ≡ option_map both (named a i)
  at i = by (id_cases i id) where
    w : Writes a (with_value a id new) id new
    w = with_value-writes a id new live

    by : (i ≡ id) ⊎ (i ≢ id) → option_map both (named (with_value a id new) i) ≡ option_map both (named a i)
    by (inl q) = ap (λ k. option_map both (named (with_value a id new) k)) q ∙ (ap (option_map both) w.given ∙ ((λ t. Some (count t, list t)) ∙ (sym (ap (option_map both) is) ∙ sym (ap (λ k. option_map both (named a k)) q))))
    by (inr ne) = ap (option_map both) (w.others i ne)

slot_is : (s : ℕ) (o : Option (ℕ × Row)) (v : Row) → stamped s o ≡ Some v → o ≡ Some (s, v)
slot_is s None v h = absurd (let n : None ≡ Some v = h in cc)
slot_is s (Some e) v h = by (e.0 == s) refl h where
  same : (m n : ℕ) → (m == n) ≡ true → m ≡ n
  same m n q = grind arith

  by : (b : Bool) → (e.0 == s) ≡ b → cond b (Some e.1) None ≡ Some v → Some e ≡ Some (s, v)
  by true q h = let n = same e.0 s q in let w : e.1 ≡ v = some_is e.1 v h in λ t. Some (n t, w t)
  by false q h = absurd (let n : None ≡ Some v = h in cc)

-- another value of a source
pub kind_parts : (k : Kind) (v : Value) → parts (seen_kind (kind_with k v)) ≡ parts (seen_kind k)
kind_parts (Constant x) v = refl
kind_parts (Source item tag x) v = refl
kind_parts (Position ids last) v = refl
kind_parts (Bound b) v = refl

-- one row counts otherwise
module _ (a : Arena Row) (id : Id) (row new : Row) (is : named a id ≡ Some row) (seen : seen_row new ≡ seen_row row) where
  live : IsSome (named a id)
  live = subst IsSome (sym is) refl

  writes : Writes a (with_value a id new) id new
  writes = with_value-writes a id new live

  pub seen_same : rows_in (with_value a id new) ≡ rows_in a
  seen_same =
      ap (λ slots. let r : Arena s.Row = record { slots = slots; made = a.made } in r)
      (map-set_same (mapped_slot seen_row) a.slots id.0 (Some (id.1, new)) None ((λ t. Some (id.1, seen t)) ∙ sym (ap (mapped_slot seen_row) (slot_is id.1 (get_or a.slots id.0 None) row is))))

  row_now : (c : Id) (r : Row) → named (with_value a id new) c ≡ Some r → ((c ≡ id) × (r ≡ new)) ⊎ ((c ≢ id) × (named a c ≡ Some r))
  row_now c r e = by (id_cases c id) where
    some_row : (x y : Row) → Some x ≡ Some y → x ≡ y
    some_row x y e = cc

    by : (c ≡ id) ⊎ (c ≢ id) → ((c ≡ id) × (r ≡ new)) ⊎ ((c ≢ id) × (named a c ≡ Some r))
    by (inl q) = inl (q, some_row r new (sym e ∙ (ap (named (with_value a id new)) q ∙ writes.given)))
    by (inr ne) = inr (ne, sym (writes.others c ne) ∙ e)

  sum : (c : Id) → readers (rows_in (with_value a id new)) c ≡ readers (rows_in a) c
  sum c = ap (λ x. readers x c) seen_same

  stands : (c : Id) → c ≡ id → once c id ≡ 1
  stands c q = ap (λ b. cond b 1 0) (ap (λ x. same_id x id) q ∙ same_id-refl id)

  stands_not : (c : Id) → c ≢ id → once c id ≡ 0
  stands_not c ne = ap (λ b. cond b 1 0) (same_id-other c id ne)

  pub counts_raised : new.readers ≡ row.readers + 1 → (rest over : List Id) → Counts a (id ∷ rest) over → Counts (with_value a id new) rest over
  counts_raised count rest over h c r e = by (row_now c r e) where
    by : ((c ≡ id) × (r ≡ new)) ⊎ ((c ≢ id) × (named a c ≡ Some r)) → r.readers + times c rest ≡ readers (rows_in (with_value a id new)) c + times c over
    by (inl p) =
        let was : row.readers + (once c id + times c rest) ≡ readers (rows_in a) c + times c over = h c row (ap (named a) p.0 ∙ is) in
        let one = stands c p.0 in
        let now : r.readers ≡ row.readers + 1 = ap (λ (x : Row). x.readers) p.1 ∙ count in
        let all = sum c in
        omega (arith, was, one, now, all)
    by (inr p) =
        let was : r.readers + (once c id + times c rest) ≡ readers (rows_in a) c + times c over = h c r p.1 in
        let none = stands_not c p.0 in
        let all = sum c in
        omega (arith, was, none, all)

  pub counts_lowered : new.readers + 1 ≡ row.readers → (rest : List Id) → Counts a [] (id ∷ rest) → Counts (with_value a id new) [] rest
  counts_lowered count rest h c r e = by (row_now c r e) where
    by : ((c ≡ id) × (r ≡ new)) ⊎ ((c ≢ id) × (named a c ≡ Some r)) → r.readers + 0 ≡ readers (rows_in (with_value a id new)) c + times c rest
    by (inl p) =
        let was : row.readers + 0 ≡ readers (rows_in a) c + (once c id + times c rest) = h c row (ap (named a) p.0 ∙ is) in
        let one = stands c p.0 in
        let now : r.readers ≡ new.readers = ap (λ (x : Row). x.readers) p.1 in
        let low = count in
        let all = sum c in
        omega (arith, was, one, now, low, all)
    by (inr p) =
        let was : r.readers + 0 ≡ readers (rows_in a) c + (once c id + times c rest) = h c r p.1 in
        let none = stands_not c p.0 in
        let all = sum c in
        omega (arith, was, none, all)

-- what isn't there isn't counted
module _ (a : Arena Row) (id : Id) (gone : named a id ≡ None) where
  apart : (c : Id) (r : Row) → named a c ≡ Some r → once c id ≡ 0
  apart c r e = ap (λ b. cond b 1 0) (same_id-other c id (λ q. let no : None ≡ Some r = sym gone ∙ (ap (named a) (sym q) ∙ e) in cc))

  pub counts_owed : (rest over : List Id) → Counts a (id ∷ rest) over → Counts a rest over
  counts_owed rest over h c r e =
      let was : r.readers + (once c id + times c rest) ≡ readers (rows_in a) c + times c over = h c r e in
      let none = apart c r e in
      omega (arith, was, none)

  pub counts_over : (rest : List Id) → Counts a [] (id ∷ rest) → Counts a [] rest
  counts_over rest h c r e =
      let was : r.readers + 0 ≡ readers (rows_in a) c + (once c id + times c rest) = h c r e in
      let none = apart c r e in
      omega (arith, was, none)

-- what was counted twice over
pub counts_both : (a : Arena Row) (xs : List Id) → Counts a [] [] → Counts a xs xs
counts_both a xs h c r e = let was : r.readers + 0 ≡ readers (rows_in a) c + 0 = h c r e in omega (arith, was)

-- there is room
pub fits_one : (a : Arena Row) (xs : List Id) (q : Id) (row : Row) (n : ℕ) → Counts a [] [] → named a q ≡ Some row → n ≡ length xs → row.readers + n < 2 ^ 64 → Fits (rows_in a) xs q
fits_one a xs q row n h is len lt =
    let was : row.readers + 0 ≡ readers (rows_in a) q + 0 = h q row is in
    let most = times_most q xs in
    omega (arith, was, most, len, lt)

-- the next one
pub raise_room : (a : Arena Row) (xs rest : List Id) (q : Id) (row : Row) → Counts a (q ∷ rest) xs → Fits (rows_in a) xs q → named a q ≡ Some row → row.readers + 1 < 2 ^ 64
raise_room a xs rest q row h room is =
    let was : row.readers + (once q q + times q rest) ≡ readers (rows_in a) q + times q xs = h q row is in
    let one : once q q ≡ 1 = ap (λ b. cond b 1 0) (same_id-refl q) in
    omega (arith, was, one, room)

pub lower_room : (a : Arena Row) (rest : List Id) (q : Id) (row : Row) → Counts a [] (q ∷ rest) → named a q ≡ Some row → 0 < row.readers
lower_room a rest q row h is =
    let was : row.readers + 0 ≡ readers (rows_in a) q + (once q q + times q rest) = h q row is in
    let one : once q q ≡ 1 = ap (λ b. cond b 1 0) (same_id-refl q) in
    omega (arith, was, one)

pub each_at : (P : Id → Type 0) (xs : List Id) (k : ℕ) (q : Id) → Each P xs → slice_get xs k ≡ Some q → P q
each_at P [] k q h e = absurd (let n : None ≡ Some q = e in cc)
each_at P (x ∷ xs) zero q h e = let s : q ≡ x = cc in subst P (sym s) h.0
each_at P (x ∷ xs) (suc k) q h e = each_at P xs k q h.1 e

-- the test of a count
pub unread_told : (a : Arena Row) (id : Id) (row : Row) (b : Bool) → IsStamped a → Counts a [] [] → named a id ≡ Some row → b ≡ (row.readers == 0) → (IsTrue b → IsSome (forms (rows_of a) id) × IsUnread (forms (rows_of a)) id) × ((IsSome (forms (rows_of a) id) × IsUnread (forms (rows_of a)) id) → IsTrue b)
unread_told a id row b st h is e =
    let was : row.readers + 0 ≡ readers (rows_in a) id + 0 = h id row is in (
      λ t. (subst IsSome (sym (form_of a id row is)) refl, none_unread a id st (zero_of row.readers (readers (rows_in a) id) was (sym e ∙ t))),
      λ p. e ∙ of_zero row.readers (readers (rows_in a) id) was (unread_none a id st p.1),
    ) where
      zero_of : (m n : ℕ) → m + 0 ≡ n + 0 → (m == 0) ≡ true → n ≡ 0
      zero_of m n w e = grind arith

      of_zero : (m n : ℕ) → m + 0 ≡ n + 0 → n ≡ 0 → (m == 0) ≡ true
      of_zero m n w e = grind arith

pub past_end : {A : Type 0} (xs : List A) (n : ℕ) → n ≡ length xs → slice_get xs n ≡ None
past_end xs n e = slice_get_past xs n (omega (arith, e))

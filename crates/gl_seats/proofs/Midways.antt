-- A list of items in the middle of its update: what one entry does to it, and its end.
use Rattle.std.proofs.Common.{◌≡◌, ℕ, ◌+◌, ◌≤◌, List, [], ◌∷◌, ◌++◌, true, false, Option, Some, map, refl, sym, ap, ap₂, subst, ◌∙◌, arith, append_assoc, append-nil}
use Rattle.gl_nodes.specs.Forest.{Forest}
use Rattle.gl_nodes.specs.Flat.{stands, head_of}
use Rattle.gl_machine.specs.Shape.{Nest, end, joined}
use Rattle.gl_vm.specs.View.{Tables}
use Rattle.gl_code.specs.Hung.{tops, stands_in}
use Rattle.gl_code.specs.declared.code.ItemCode.{ItemCode}
use Rattle.gl_seats.specs.Parts.{item_nest, items_nest}
use Rattle.gl_seats.specs.Seats.{Nested, Stood, Replaced, Replaces, UnseatsEach, SeatsBefore, Shifted, ShiftsBefore, IsBehind}
use Rattle.gl_seats.specs.Midway.{all, Row, row_nest, done_in, olds_in, Midway}
use Rattle.gl_seats.proofs.Nests.{tops-joined, stands_in-joined, joined_end, joined_assoc, nested_both, nested_parts, nested_same}
use Rattle.gl_seats.proofs.Rows.{row_all}
use Rattle.gl_seats.proofs.CodeRows.{items_row}
use Rattle.gl_seats.proofs.Replacing.{frame, stood_left, stood_right, replaces_same, replaces_joined, replaces_within, behind_last}

-- Rows

all-append : (xs ys : List (Nest ℕ)) → all (xs ++ ys) ≡ joined (all xs) (all ys)
all-append [] ys = refl
all-append (x ∷ xs) ys = ap (joined x) (all-append xs ys) ∙ sym (joined_assoc x (all xs) (all ys))

row-append : (rs ss : Row) → row_nest (rs ++ ss) ≡ joined (row_nest rs) (row_nest ss)
row-append [] ss = refl
row-append (r ∷ rs) ss = ap (joined r.1) (row-append rs ss) ∙ sym (joined_assoc r.1 (row_nest rs) (row_nest ss))

done-append : (rs ss : Row) → done_in (rs ++ ss) ≡ done_in rs ++ done_in ss
done-append [] ss = refl
done-append ((true, x) ∷ rs) ss = ap (λ l. x ∷ l) (done-append rs ss)
done-append ((false, x) ∷ rs) ss = done-append rs ss

olds-append : (rs ss : Row) → olds_in (rs ++ ss) ≡ olds_in rs ++ olds_in ss
olds-append [] ss = refl
olds-append ((true, x) ∷ rs) ss = olds-append rs ss
olds-append ((false, x) ∷ rs) ss = ap (λ l. x ∷ l) (olds-append rs ss)

-- old ones side by side
abbrev olds : List (Nest ℕ) → Row
olds xs = map (λ x. (false, x)) xs

olds-nest : (xs : List (Nest ℕ)) → row_nest (olds xs) ≡ all xs
olds-nest [] = refl
olds-nest (x ∷ xs) = ap (joined x) (olds-nest xs)

olds-done : (xs : List (Nest ℕ)) → done_in (olds xs) ≡ []
olds-done [] = refl
olds-done (x ∷ xs) = olds-done xs

olds-olds : (xs : List (Nest ℕ)) → olds_in (olds xs) ≡ xs
olds-olds [] = refl
olds-olds (x ∷ xs) = ap (λ l. x ∷ l) (olds-olds xs)

-- how often a number stands in a row
row-stands : (s : ℕ) (rs : Row) → stands_in s (row_nest rs) ≡ stands_in s (all (done_in rs)) + stands_in s (all (olds_in rs))
row-stands s [] = refl
row-stands s ((true, x) ∷ rs) =
    let r = row-stands s rs in let a = stands_in-joined s x (row_nest rs) in let b = stands_in-joined s x (all (done_in rs)) in omega (arith, r, a, b)
row-stands s ((false, x) ∷ rs) =
    let r = row-stands s rs in let a = stands_in-joined s x (row_nest rs) in let b = stands_in-joined s x (all (olds_in rs)) in omega (arith, r, a, b)

all-stands : (s : ℕ) (xs ys : List (Nest ℕ)) → stands_in s (all (xs ++ ys)) ≡ stands_in s (all xs) + stands_in s (all ys)
all-stands s xs ys = ap (stands_in s) (all-append xs ys) ∙ stands_in-joined s (all xs) (all ys)

-- one more at the end
last-stands : (s : ℕ) (xs : List (Nest ℕ)) (y : Nest ℕ) → stands_in s (all (xs ++ y ∷ [])) ≡ stands_in s (all xs) + stands_in s y
last-stands s xs y = all-stands s xs (y ∷ []) ∙ ap (λ z. stands_in s (all xs) + stands_in s z) (joined_end y)

-- Where an old one stands in a row.
record At (rs : Row) (a : List (Nest ℕ)) (x : Nest ℕ) (b : List (Nest ℕ)) : Type 0 where
  front : Row
  back : Row
  is : rs ≡ front ++ (false, x) ∷ back
  before : olds_in front ≡ a
  behind : olds_in back ≡ b

head_nest : List (Nest ℕ) → Nest ℕ
head_nest [] = end
head_nest (x ∷ xs) = x

tail_nests : List (Nest ℕ) → List (Nest ℕ)
tail_nests [] = []
tail_nests (x ∷ xs) = xs

at : (rs : Row) (a : List (Nest ℕ)) (x : Nest ℕ) (b : List (Nest ℕ)) → olds_in rs ≡ a ++ x ∷ b → At rs a x b
unfolding head_nest tail_nests
at [] [] x b e = absurd (let no : [] ≡ x ∷ b = e in cc)
at [] (z ∷ a) x b e = absurd (let no : [] ≡ z ∷ (a ++ x ∷ b) = e in cc)
at ((true, z) ∷ rs) a x b e =
    let q = at rs a x b e in record { front = (true, z) ∷ q.front; back = q.back; is = ap (λ l. (true, z) ∷ l) q.is; before = q.before; behind = q.behind }
at ((false, z) ∷ rs) [] x b e = record { front = []; back = rs; is = ap (λ w. (false, w) ∷ rs) (ap head_nest e); before = refl; behind = ap tail_nests e }
at ((false, z) ∷ rs) (w ∷ a) x b e =
    let q = at rs a x b (ap tail_nests e) in
    record { front = (false, z) ∷ q.front; back = q.back; is = ap (λ l. (false, z) ∷ l) q.is; before = ap₂ (λ u us. u ∷ us) (ap head_nest e) q.before; behind = q.behind }

-- Parts of what stands there

-- one between two others
stood_mid : (f : Forest) (p : Option ℕ) (front back : List ℕ) (l x r : Nest ℕ) → Stood f p front (joined l (joined x r)) back → Stood f p (front ++ tops l) x (tops r ++ back)
stood_mid f p front back l x r a =
    let b = stood_left f p front back (joined l x) r (subst (λ z. Stood f p front z back) (sym (joined_assoc l x r)) a) in
    stood_right f p front (tops r ++ back) l x (stood_left f p front (tops r ++ back) l x b) (nested_parts f l x b.nested).1
    (λ s. let w = b.within s in let j = stands_in-joined s l x in omega (arith, w, j)) (λ s e. let w = b.apart s e in let j = stands_in-joined s l x in omega (arith, w, j))

-- and what stands on both sides of one
stood_round : (f : Forest) (p : Option ℕ) (front back : List ℕ) (l x r : Nest ℕ) → Stood f p (front ++ tops l) x (tops r ++ back) → Nested f (joined l r) → ((s : ℕ) → stands_in s (joined l r) + stands_in s x ≤ stands s f)
    → ((s : ℕ) → p ≡ Some s → stands_in s (joined l r) ≡ 0) → Stood f p front (joined l (joined x r)) back
stood_round f p front back l x r a nested beside apart = record {
  line = a.line ∙ (append_assoc front (tops l) (tops x ++ (tops r ++ back))
      ∙ ap (λ z. front ++ z) (ap (λ z. tops l ++ z) (sym (append_assoc (tops x) (tops r) back)) ∙ (sym (append_assoc (tops l) (tops x ++ tops r) back)
      ∙ ap (λ z. z ++ back) (ap (λ z. tops l ++ z) (sym (tops-joined x r)) ∙ sym (tops-joined l (joined x r))))));
  nested = let q = nested_parts f l r nested in nested_both f l (joined x r) q.0 (nested_both f x r a.nested q.1);
  within = λ s. let w = beside s in let i = stands_in-joined s l r in let j = stands_in-joined s l (joined x r) in let k = stands_in-joined s x r in omega (arith, w, i, j, k);
  once = a.once;
  parent = a.parent;
  apart = λ s e. let w = apart s e in let v = a.apart s e in let i = stands_in-joined s l r in let j = stands_in-joined s l (joined x r) in let k = stands_in-joined s x r in omega (arith, w, v, i, j, k);
}

-- The steps

pub midway_begin : (f : Forest) (p : Option ℕ) (front back : List ℕ) (xs : List (Nest ℕ)) (next : Option ℕ) → Stood f p front (all xs) back → next ≡ head_of (tops (all xs) ++ back)
    → Midway f f p front (all xs) back [] [] xs next
midway_begin f p front back xs next a e = record {
  row = [];
  stood = a;
  done_are = refl;
  passed_are = refl;
  next_is = e;
  among = λ s. omega arith;
  others = λ q ne off. refl;
  counts = λ s. omega arith;
}

-- how often a number stands in what a list has in the middle of its update
held : {f g : Forest} {p : Option ℕ} {front back : List ℕ} {whole : Nest ℕ} {done passed ahead : List (Nest ℕ)} {next : Option ℕ} (m : Midway f g p front whole back done passed ahead next) (s : ℕ)
    → stands_in s (row_nest m.row) ≡ stands_in s (all done) + stands_in s (all passed)
held {f} {g} {p} {front} {back} {whole} {done} {passed} {ahead} {next} m s = row-stands s m.row ∙ ap₂ (λ a b. stands_in s (all a) + stands_in s (all b)) m.done_are m.passed_are

-- An old item ahead stays: what stood before it is passed over, it is replaced in its place, and the seat is behind it.
pub midway_stays : (f g h : Forest) (p : Option ℕ) (front : List ℕ) (whole : Nest ℕ) (back : List ℕ) (done passed skipped ahead : List (Nest ℕ)) (x y : Nest ℕ) (next later : Option ℕ)
    → Midway f g p front whole back done passed (skipped ++ x ∷ ahead) next → Replaces g h p x y → IsBehind h p y later → Midway f h p front whole back (done ++ y ∷ []) (passed ++ skipped) ahead later
midway_stays f g h p front whole back done passed skipped ahead x y next later m r b =
    let l = joined (row_nest m.row) (all skipped) in
    let ends = all ahead in
    let more : Row = olds skipped ++ (true, y) ∷ [] in
    let was : joined (row_nest m.row) (all (skipped ++ x ∷ ahead)) ≡ joined l (joined x ends) = ap (joined (row_nest m.row)) (all-append skipped (x ∷ ahead)) ∙ sym (joined_assoc (row_nest m.row) (all skipped) (joined x ends)) in
    let a : Replaced g h p front (joined l (joined x ends)) (joined l (joined y ends)) back = replaces_within g h p l x y ends r front back (subst (λ z. Stood g p front z back) was m.stood) in
    let tail : row_nest more ≡ joined (all skipped) y = row-append (olds skipped) ((true, y) ∷ []) ∙ ap₂ joined (olds-nest skipped) (joined_end y) in
    let row : row_nest (m.row ++ more) ≡ joined l y = row-append m.row more ∙ (ap (joined (row_nest m.row)) tail ∙ sym (joined_assoc (row_nest m.row) (all skipped) y)) in
    let is : joined l (joined y ends) ≡ joined (row_nest (m.row ++ more)) ends = sym (joined_assoc l y ends) ∙ ap (λ z. joined z ends) (sym row) in
    record {
      row = m.row ++ more;
      stood = subst (λ z. Stood h p front z back) is a.stood;
      done_are = done-append m.row more ∙ ap₂ (λ u v. u ++ v) m.done_are (done-append (olds skipped) ((true, y) ∷ []) ∙ ap (λ u. u ++ y ∷ []) (olds-done skipped));
      passed_are = olds-append m.row more ∙ ap₂ (λ u v. u ++ v) m.passed_are (olds-append (olds skipped) ((true, y) ∷ []) ∙ (append-nil (olds_in (olds skipped)) ∙ olds-olds skipped));
      next_is = behind_last h p later l y b front (tops ends ++ back) (stood_left h p front back (joined l y) ends (subst (λ z. Stood h p front z back) (sym (joined_assoc l y ends)) a.stood));
      among = λ s. let w = m.among s in let i = all-stands s passed skipped in let j = all-stands s skipped (x ∷ ahead) in let k = stands_in-joined s x ends in omega (arith, w, i, j, k);
      others = λ q ne off. a.others q ne (λ s e. let o = off s e in let o0 = o.0 in let o1 = o.1 in
          let w = m.among s in let d = held m s in let i = last-stands s done y in let j = all-stands s skipped (x ∷ ahead) in let k = stands_in-joined s x ends in let n = stands_in-joined s (row_nest m.row) (all skipped) in
          let u = stands_in-joined s l (joined x ends) in let v = stands_in-joined s l (joined y ends) in let z = stands_in-joined s y ends in
          (omega (arith, o0, o1, w, d, i, j, k, n, u), omega (arith, o0, o1, w, d, i, j, k, n, v, z)))
          ∙ m.others q ne (λ s e. let o = off s e in let o1 = o.1 in let i = last-stands s done y in (o.0, omega (arith, o1, i)));
      counts = λ s. let c = a.counts s in let d = m.counts s in let i = last-stands s done y in let n = all-stands s passed skipped in let j = all-stands s skipped (x ∷ ahead) in let k = stands_in-joined s x ends in
          let u = stands_in-joined s l (joined x ends) in let v = stands_in-joined s l (joined y ends) in let z = stands_in-joined s y ends in omega (arith, c, d, i, n, j, k, u, v, z);
    }

-- An old item that was passed over moves to the seat, and is replaced there.
pub midway_moves : (f g h k : Forest) (p : Option ℕ) (front : List ℕ) (whole : Nest ℕ) (back : List ℕ) (done before behind ahead : List (Nest ℕ)) (x y : Nest ℕ) (next : Option ℕ)
    → Midway f g p front whole back done (before ++ x ∷ behind) ahead next → ShiftsBefore g h p next x → Replaces h k p x y → Midway f k p front whole back (done ++ y ∷ []) (before ++ behind) ahead next
midway_moves f g h k p front whole back done before behind ahead x y next m shifts r =
    let q = at m.row before x behind m.passed_are in
    let l = row_nest q.front in
    let o = row_nest q.back in
    let ends = all ahead in
    let rest : Row = q.front ++ q.back in
    let was : joined (row_nest m.row) ends ≡ joined l (joined x (joined o ends)) = ap (λ z. joined z ends) (ap row_nest q.is ∙ row-append q.front ((false, x) ∷ q.back)) ∙ (joined_assoc l (joined x o) ends ∙ ap (joined l) (joined_assoc x o ends)) in
    let stood : Stood g p front (joined l (joined x (joined o ends))) back = subst (λ z. Stood g p front z back) was m.stood in
    let both : row_nest rest ≡ joined l o = row-append q.front q.back in
    let line : (front ++ tops l) ++ (tops (joined o ends) ++ back) ≡ (front ++ tops (row_nest rest)) ++ (tops ends ++ back)
    = append_assoc front (tops l) (tops (joined o ends) ++ back)
    ∙ (ap (λ z. front ++ (tops l ++ z)) (ap (λ z. z ++ back) (tops-joined o ends) ∙ append_assoc (tops o) (tops ends) back)
    ∙ (ap (λ z. front ++ z) (sym (append_assoc (tops l) (tops o) (tops ends ++ back)) ∙ ap (λ z. z ++ (tops ends ++ back)) (sym (ap tops both ∙ tops-joined l o))) ∙ sym (append_assoc front (tops (row_nest rest)) (tops ends ++ back)))) in
    let moved : Shifted g h p x (front ++ tops (row_nest rest)) (tops ends ++ back) = shifts (front ++ tops l) (tops (joined o ends) ++ back) (stood_mid g p front back l x (joined o ends) stood) (front ++ tops (row_nest rest)) (tops ends ++ back) line m.next_is in
    let a : Replaced h k p (front ++ tops (row_nest rest)) x y (tops ends ++ back) = r (front ++ tops (row_nest rest)) (tops ends ++ back) moved.stood in
    let side = joined (row_nest rest) ends in
    let sums : (s : ℕ) → stands_in s side + stands_in s x ≡ stands_in s (joined l (joined x (joined o ends)))
    = λ s. let i = stands_in-joined s (row_nest rest) ends in let j = ap (stands_in s) both ∙ stands_in-joined s l o in let u = stands_in-joined s l (joined x (joined o ends)) in let v = stands_in-joined s x (joined o ends) in let w = stands_in-joined s o ends in omega (arith, i, j, u, v, w) in
    let apart : (s : ℕ) → p ≡ Some s → stands_in s side ≡ 0 = λ s e. let w = stood.apart s e in let t = sums s in omega (arith, w, t) in
    let nested_l = nested_parts g l (joined x (joined o ends)) stood.nested in
    let nested_x = nested_parts g x (joined o ends) nested_l.1 in
    let nested_o = nested_parts g o ends nested_x.1 in
    let nested : Nested g side = nested_both g (row_nest rest) ends (subst (Nested g) (sym both) (nested_both g l o nested_l.0 nested_o.0)) nested_o.1 in
    let shifted : Nested h side = nested_same g h side (λ s lt. moved.others (Some s) (λ e. let w = apart s (sym e) in absurd (omega (arith, w, lt)))) nested in
    let framed = frame h k p (front ++ tops (row_nest rest)) (tops ends ++ back) x y side a moved.stood.once shifted (λ s. let w = stood.within s in let t = sums s in let c = moved.counts s in omega (arith, w, t, c)) apart in
    let row : row_nest (rest ++ (true, y) ∷ []) ≡ joined (row_nest rest) y = row-append rest ((true, y) ∷ []) ∙ ap (joined (row_nest rest)) (joined_end y) in
    record {
      row = rest ++ (true, y) ∷ [];
      stood = subst (λ z. Stood k p front z back) (sym (joined_assoc (row_nest rest) y ends) ∙ ap (λ z. joined z ends) (sym row)) (stood_round k p front back (row_nest rest) y ends a.stood framed.0 framed.1 apart);
      done_are = done-append rest ((true, y) ∷ []) ∙ ap (λ u. u ++ y ∷ []) (done-append q.front q.back ∙ (sym (ap done_in q.is ∙ done-append q.front ((false, x) ∷ q.back)) ∙ m.done_are));
      passed_are = olds-append rest ((true, y) ∷ []) ∙ (append-nil (olds_in rest) ∙ (olds-append q.front q.back ∙ ap₂ (λ u v. u ++ v) q.before q.behind));
      next_is = m.next_is;
      among = λ s. let w = m.among s in let i = all-stands s before behind in let j = all-stands s before (x ∷ behind) in let n = stands_in-joined s x (all behind) in omega (arith, w, i, j, n);
      others = λ z ne off. a.others z ne (λ s e. let c = off s e in let c0 = c.0 in let c1 = c.1 in let w = m.among s in let i = last-stands s done y in let j = all-stands s before (x ∷ behind) in let n = stands_in-joined s x (all behind) in
          (omega (arith, c0, w, j, n), omega (arith, c1, i)))
          ∙ (moved.others z ne ∙ m.others z ne (λ s e. let c = off s e in let c1 = c.1 in let i = last-stands s done y in (c.0, omega (arith, c1, i))));
      counts = λ s. let c = a.counts s in let d = m.counts s in let e = moved.counts s in let i = last-stands s done y in let n = all-stands s before behind in let j = all-stands s before (x ∷ behind) in let w = stands_in-joined s x (all behind) in omega (arith, c, d, e, i, n, j, w);
    }

-- A new item stands at the seat.
pub midway_seats : (f g h : Forest) (p : Option ℕ) (front : List ℕ) (whole : Nest ℕ) (back : List ℕ) (done passed ahead : List (Nest ℕ)) (y : Nest ℕ) (next : Option ℕ)
    → Midway f g p front whole back done passed ahead next → SeatsBefore g h p next y → Midway f h p front whole back (done ++ y ∷ []) passed ahead next
midway_seats f g h p front whole back done passed ahead y next m seats =
    let l = row_nest m.row in
    let ends = all ahead in
    let a : Replaced g h p (front ++ tops l) end y (tops ends ++ back) = seats (front ++ tops l) (tops ends ++ back) (stood_mid g p front back l end ends m.stood) m.next_is in
    let framed = frame g h p (front ++ tops l) (tops ends ++ back) end y (joined l ends) a m.stood.once m.stood.nested (λ s. let w = m.stood.within s in omega (arith, w)) m.stood.apart in
    let row : row_nest (m.row ++ (true, y) ∷ []) ≡ joined l y = row-append m.row ((true, y) ∷ []) ∙ ap (joined l) (joined_end y) in
    record {
      row = m.row ++ (true, y) ∷ [];
      stood = subst (λ z. Stood h p front z back) (sym (joined_assoc l y ends) ∙ ap (λ z. joined z ends) (sym row)) (stood_round h p front back l y ends a.stood framed.0 framed.1 m.stood.apart);
      done_are = done-append m.row ((true, y) ∷ []) ∙ ap (λ u. u ++ y ∷ []) m.done_are;
      passed_are = olds-append m.row ((true, y) ∷ []) ∙ (append-nil (olds_in m.row) ∙ m.passed_are);
      next_is = m.next_is;
      among = m.among;
      others = λ q ne off. a.others q ne (λ s e. let c1 = (off s e).1 in let i = last-stands s done y in (refl, omega (arith, c1, i))) ∙ m.others q ne (λ s e. let c = off s e in let c1 = c.1 in let i = last-stands s done y in (c.0, omega (arith, c1, i)));
      counts = λ s. let c = a.counts s in let d = m.counts s in let i = last-stands s done y in omega (arith, c, d, i);
    }

-- the old ones of a row go, one after another
row_ends : (g h : Forest) (p : Option ℕ) (rs : Row) → UnseatsEach g h (olds_in rs) → Replaces g h p (row_nest rs) (all (done_in rs))
row_ends g h p [] e = subst (λ k. Replaces g k p end end) (sym e) (replaces_same g p end)
row_ends g h p ((true, x) ∷ rs) e = replaces_joined g g h p x x (row_nest rs) (all (done_in rs)) (replaces_same g p x) (row_ends g h p rs e)
row_ends g h p ((false, x) ∷ rs) e = replaces_joined g e.0 h p x end (row_nest rs) (all (done_in rs)) (e.1 p) (row_ends e.0 h p rs e.2)

-- The old ones that are left go.
pub midway_ends : (f g h : Forest) (p : Option ℕ) (front : List ℕ) (whole : Nest ℕ) (back : List ℕ) (done passed ahead : List (Nest ℕ)) (next : Option ℕ)
    → Midway f g p front whole back done passed ahead next → UnseatsEach g h (passed ++ ahead) → Replaced f h p front whole (all done) back
midway_ends f g h p front whole back done passed ahead next m gone =
    let rs : Row = m.row ++ olds ahead in
    let left : olds_in rs ≡ passed ++ ahead = olds-append m.row (olds ahead) ∙ ap₂ (λ u v. u ++ v) m.passed_are (olds-olds ahead) in
    let kept : done_in rs ≡ done = done-append m.row (olds ahead) ∙ (ap₂ (λ u v. u ++ v) m.done_are (olds-done ahead) ∙ append-nil done) in
    let was : row_nest rs ≡ joined (row_nest m.row) (all ahead) = row-append m.row (olds ahead) ∙ ap (joined (row_nest m.row)) (olds-nest ahead) in
    let r : Replaces g h p (joined (row_nest m.row) (all ahead)) (all done) = subst (λ z. Replaces g h p z (all done)) was (subst (λ ds. Replaces g h p (row_nest rs) (all ds)) kept (row_ends g h p rs (subst (UnseatsEach g h) (sym left) gone))) in
    let a : Replaced g h p front (joined (row_nest m.row) (all ahead)) (all done) back = r front back m.stood in
    record {
      stood = a.stood;
      others = λ q ne off. a.others q ne (λ s e. let c = off s e in let c0 = c.0 in let c1 = c.1 in let w = m.among s in let d = held m s in let j = stands_in-joined s (row_nest m.row) (all ahead) in (omega (arith, c0, c1, w, d, j), c1))
          ∙ m.others q ne off;
      counts = λ s. let c = a.counts s in let d = m.counts s in let i = held m s in let j = stands_in-joined s (row_nest m.row) (all ahead) in omega (arith, c, d, i, j);
    }

-- the items of a list side by side
pub items_all : (n : Tables) (xs : List ItemCode) → items_nest n xs ≡ all (map (item_nest n) xs)
items_all n xs = items_row n xs ∙ sym (row_all (item_nest n) xs)

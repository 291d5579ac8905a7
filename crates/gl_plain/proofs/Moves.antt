-- What a step over one part leaves to the others.
use Rattle.gl_plain.specs.Reads.{ReadsLower, RowsReadLower}
use Rattle.std.proofs.Common.{◌≡◌, subst, ℕ, suc, ◌+◌, ◌<◌, ◌≤◌, Bool, true, false, true≢false, List, [], ◌∷◌, ◌++◌, Some, None, cond, refl, sym, ◌∙◌, ap, ap₂, arith, inl, inr, ◌⊎◌}
use Rattle.std.specs.Prelude.{if◌then◌else◌}
use Rattle.std.proofs.lemmas.Bool.{cases_lt}
use Rattle.gl_meaning.specs.Scope.{Source}
use Rattle.gl_plain.specs.Ids
use Rattle.gl_plain.specs.Ids.{Kind, Id, id_eq, kind_eq, hit, occurs, ref}
use Rattle.gl_plain.specs.State.{Thing, State, make}
use Rattle.gl_plain.specs.Stands.{Owned}
use Rattle.gl_meaning.proofs.Equal.{both_left, both_right, both_true}
use Rattle.std.proofs.lemmas.Bool.Decides.{Decides-eqb}

-- a step over a part that had these ids and has those
pub record Moves (st st' : State) (before after : Id → ℕ) : Type 0 where
  pub kept : (q : Id) → q.num < st.next q.kind → before q ≡ 0 → st'.look q ≡ st.look q
  pub more : (q : Id) → st.next q.kind ≤ st'.next q.kind
  pub fewer : (q : Id) → q.num < st.next q.kind → after q ≤ before q
  pub once : (q : Id) → after q ≤ 1
  pub old : (q : Id) → st'.next q.kind ≤ q.num → after q ≡ 0
  pub still : (x : Source) → st'.touched x ≡ false → st.touched x ≡ false
  -- what is no longer the part's own is there no longer
  pub gone : (q : Id) → q.num < st.next q.kind → 0 < before q → after q ≡ 0 → st'.look q ≡ None
  pub lower : RowsReadLower st.look → RowsReadLower st'.look

pub owned_after : (st st' : State) (a b : Id → ℕ) → Moves st st' a b → Owned st' b
owned_after st st' a b m = record { once = m.once; old = m.old }

-- one part after the other
pub both_move : (st st1 st2 : State) (a a' b b' : Id → ℕ) → Owned st (λ q. a q + b q) → Moves st st1 a a' → Moves st1 st2 b b' → Moves st st2 (λ q. a q + b q) (λ q. a' q + b' q)
both_move st st1 st2 a a' b b' o m n = record {
  kept = λ q lt zero.
      let i = o.once q in let k = m.more q in
      n.kept q (omega (arith, k, lt)) (omega (arith, zero)) ∙ m.kept q lt (omega (arith, zero));
  more = λ q. let i = m.more q in let k = n.more q in omega (arith, i, k);
  fewer = λ q lt. let i = m.fewer q lt in let k = n.fewer q (let w = m.more q in omega (arith, w, lt)) in omega (arith, i, k);
  once = λ q. once_case q (cases_lt q.num (st.next q.kind)) (cases_lt q.num (st1.next q.kind));
  old = λ q le. let i = m.old q (let w = n.more q in omega (arith, w, le)) in let k = n.old q le in omega (arith, i, k);
  still = λ x e. m.still x (n.still x e);
  gone = λ q lt w z. gone_case q lt w z (cases_lt 0 (a q));
  lower = λ l. n.lower (m.lower l);
} where
  gone_case : (q : Id) → q.num < st.next q.kind → 0 < a q + b q → a' q + b' q ≡ 0 → ((0 < a q) ⊎ (a q ≤ 0)) → st2.look q ≡ None
  gone_case q lt w z (inl u) =
      let i = o.once q in let k = m.more q in n.kept q (omega (arith, k, lt)) (omega (arith, i, u)) ∙ m.gone q lt u (omega (arith, z))
  gone_case q lt w z (inr u) = let k = m.more q in n.gone q (omega (arith, k, lt)) (omega (arith, w, u)) (omega (arith, z))

  once_case : (q : Id) → ((q.num < st.next q.kind) ⊎ (st.next q.kind ≤ q.num)) → ((q.num < st1.next q.kind) ⊎ (st1.next q.kind ≤ q.num)) → a' q + b' q ≤ 1
  once_case q (inl lt) _ =
      let i = m.fewer q lt in let k = n.fewer q (let w = m.more q in omega (arith, w, lt)) in let w = o.once q in omega (arith, i, k, w)
  once_case q (inr ge) (inl lt) =
      let i = m.once q in let k = n.fewer q lt in let w = o.old q ge in omega (arith, i, k, w)
  once_case q (inr ge) (inr ge1) =
      let i = m.old q ge1 in let k = n.once q in omega (arith, i, k)

-- one step after another over the same part
pub then_move : (st st1 st2 : State) (a b c : Id → ℕ) → Moves st st1 a b → Moves st1 st2 b c → Moves st st2 a c
then_move st st1 st2 a b c m n = record {
  kept = λ q lt zero.
      let k = m.more q in let i = m.fewer q lt in
      n.kept q (omega (arith, k, lt)) (omega (arith, zero, i)) ∙ m.kept q lt zero;
  more = λ q. let i = m.more q in let k = n.more q in omega (arith, i, k);
  fewer = λ q lt. let i = m.fewer q lt in let k = n.fewer q (let w = m.more q in omega (arith, w, lt)) in omega (arith, i, k);
  once = n.once;
  old = n.old;
  still = λ x e. m.still x (n.still x e);
  gone = λ q lt w z. gone_case q lt w z (cases_lt 0 (b q));
  lower = λ l. n.lower (m.lower l);
} where
  gone_case : (q : Id) → q.num < st.next q.kind → 0 < a q → c q ≡ 0 → ((0 < b q) ⊎ (b q ≤ 0)) → st2.look q ≡ None
  gone_case q lt w z (inl u) = let k = m.more q in n.gone q (omega (arith, k, lt)) u z
  gone_case q lt w z (inr u) = let k = m.more q in n.kept q (omega (arith, k, lt)) (omega (arith, u)) ∙ m.gone q lt w (omega (arith, u))

-- the same step, with counts that are the same
pub recount : (st st' : State) (a a' b b' : Id → ℕ) → ((q : Id) → a q ≡ a' q) → ((q : Id) → b q ≡ b' q) → Moves st st' a' b' → Moves st st' a b
recount st st' a a' b b' e f m = record {
  kept = λ q lt zero. m.kept q lt (sym (e q) ∙ zero);
  more = m.more;
  fewer = λ q lt. let h = m.fewer q lt in let k = e q in let j = f q in omega (arith, h, k, j);
  once = λ q. let h = m.once q in let j = f q in omega (arith, h, j);
  old = λ q le. f q ∙ m.old q le;
  still = m.still;
  gone = λ q lt w z. m.gone q lt (let k = e q in omega (arith, w, k)) (sym (f q) ∙ z);
  lower = m.lower;
}

-- a part that moved stays while the part beside it moves
pub before_it : (st st1 st2 : State) (a a' b b' : Id → ℕ) → Owned st (λ q. a q + b q) → Moves st st1 a a' → Moves st1 st2 b b'
    → (q : Id) → 0 < a' q → st2.look q ≡ st1.look q
before_it st st1 st2 a a' b b' o m n q w = by_age (cases_lt q.num (st.next q.kind)) (cases_lt q.num (st1.next q.kind)) where
  by_age : ((q.num < st.next q.kind) ⊎ (st.next q.kind ≤ q.num)) → ((q.num < st1.next q.kind) ⊎ (st1.next q.kind ≤ q.num)) → st2.look q ≡ st1.look q
  by_age (inl lt) _ =
      let k = m.more q in let i = m.fewer q lt in let u = o.once q in
      n.kept q (omega (arith, k, lt)) (omega (arith, i, u, w))
  by_age (inr ge) (inl lt) = let u = o.old q ge in n.kept q lt (omega (arith, u))
  by_age (inr ge) (inr ge1) = let u = m.old q ge1 in absurd (omega (arith, u, w))

-- what stood beside a part keeps its things
pub beside : (st st1 : State) (a a' b : Id → ℕ) → Owned st (λ q. a q + b q) → Moves st st1 a a' → (q : Id) → 0 < b q → st1.look q ≡ st.look q
beside st st1 a a' b o m q w = m.kept q (is_old (cases_lt q.num (st.next q.kind))) (let i = o.once q in omega (arith, i, w)) where
  is_old : ((q.num < st.next q.kind) ⊎ (st.next q.kind ≤ q.num)) → q.num < st.next q.kind
  is_old (inl lt) = lt
  is_old (inr ge) = let i = o.old q ge in absurd (omega (arith, i, w))

pub left_owned : (st : State) (a b : Id → ℕ) → Owned st (λ q. a q + b q) → Owned st a
left_owned st a b o = record { once = λ q. let h = o.once q in omega (arith, h); old = λ q le. let h = o.old q le in omega (arith, h) }

pub right_owned : (st : State) (a b : Id → ℕ) → Owned st (λ q. a q + b q) → Owned st b
right_owned st a b o = record { once = λ q. let h = o.once q in omega (arith, h); old = λ q le. let h = o.old q le in omega (arith, h) }

-- the rest is owned after the part before it moved
pub next_owned : (st st1 : State) (a a' b : Id → ℕ) → Owned st (λ q. a q + b q) → Moves st st1 a a' → Owned st1 b
next_owned st st1 a a' b o m = record {
  once = λ q. let h = o.once q in omega (arith, h);
  old = λ q le. let w = m.more q in let h = o.old q (omega (arith, w, le)) in omega (arith, h);
}

pub same_owned : (st : State) (a b : Id → ℕ) → ((q : Id) → a q ≡ b q) → Owned st a → Owned st b
same_owned st a b e o = record {
  once = λ q. let h = o.once q in let k = e q in omega (arith, h, k);
  old = λ q le. let h = o.old q le in let k = e q in omega (arith, h, k);
}

pub is_old : (st : State) (a : Id → ℕ) → Owned st a → (q : Id) → 0 < a q → q.num < st.next q.kind
is_old st a o q w = by_age (cases_lt q.num (st.next q.kind)) where
  by_age : ((q.num < st.next q.kind) ⊎ (st.next q.kind ≤ q.num)) → q.num < st.next q.kind
  by_age (inl lt) = lt
  by_age (inr ge) = let h = o.old q ge in absurd (omega (arith, h, w))

pub nothing_owned : (st : State) → Owned st (λ q. 0)
nothing_owned st = record { once = λ q. omega arith; old = λ q le. refl }

pub no_move : (st : State) → Moves st st (λ q. 0) (λ q. 0)
no_move st = record { kept = λ q lt zero. refl; more = λ q. omega arith; fewer = λ q lt. omega arith; once = λ q. omega arith; old = λ q le. refl; still = λ x e. e; gone = λ q lt w z. absurd (omega (arith, w)); lower = λ l. l }

-- new parts one after the other
pub both_new : (st st1 st2 : State) (a b : Id → ℕ) → Moves st st1 (λ q. 0) a → Moves st1 st2 (λ q. 0) b → Moves st st2 (λ q. 0) (λ q. a q + b q)
both_new st st1 st2 a b m n = both_move st st1 st2 (λ q. 0) a (λ q. 0) b (nothing_owned st) m n

pub before_new : (st st1 st2 : State) (a b : Id → ℕ) → Moves st st1 (λ q. 0) a → Moves st1 st2 (λ q. 0) b → (q : Id) → 0 < a q → st2.look q ≡ st1.look q
before_new st st1 st2 a b m n q w = before_it st st1 st2 (λ q. 0) a (λ q. 0) b (nothing_owned st) m n q w

-- Single ids

pub kind_means : (j k : Kind) → kind_eq j k ≡ true → j ≡ k
kind_means Ids.a_ref Ids.a_ref e = refl
kind_means Ids.a_node Ids.a_node e = refl
kind_means Ids.an_instance Ids.an_instance e = refl
kind_means Ids.a_block Ids.a_block e = refl
kind_means Ids.a_modifier Ids.a_modifier e = refl
kind_means _ _ e = absurd (true≢false (sym e))

pub kind_itself : (j : Kind) → kind_eq j j ≡ true
kind_itself Ids.a_ref = refl
kind_itself Ids.a_node = refl
kind_itself Ids.an_instance = refl
kind_itself Ids.a_block = refl
kind_itself Ids.a_modifier = refl

pub id_means : (q r : Id) → id_eq q r ≡ true → q ≡ r
id_means q r e = ap₂ (λ k n. record { kind = k; num = n }) (kind_means q.kind r.kind (both_left _ _ e)) ((Decides-eqb q.num r.num).0 (both_right (kind_eq q.kind r.kind) _ e))

pub id_itself : (q : Id) → id_eq q q ≡ true
id_itself q = both_true _ _ (kind_itself q.kind) ((Decides-eqb q.num q.num).1 refl)

-- whether ids are equal, as a case
abbrev pub IdCase : Id → Id → Type 0
IdCase q r = ((id_eq q r ≡ true) × (q ≡ r)) ⊎ (id_eq q r ≡ false)

pub id_case : (q r : Id) → IdCase q r
id_case q r = by (id_eq q r) refl where
  by : (b : Bool) → id_eq q r ≡ b → ((id_eq q r ≡ true) × (q ≡ r)) ⊎ (id_eq q r ≡ false)
  by true e = inl (e, id_means q r e)
  by false e = inr e

pub hit_same : (r : Id) → hit r r ≡ 1
unfolding hit
hit_same r = rw (id_itself r) refl

pub hit_le : (q r : Id) → hit q r ≤ 1
unfolding hit
hit_le q r = by (id_eq q r) where
  by : (b : Bool) → cond {A = ℕ} b 1 0 ≤ 1
  by true = omega arith
  by false = omega arith

pub hit_self : (r : Id) → 0 < hit r r
hit_self r = let h = hit_same r in omega (arith, h)

-- where it isn't hit the test is false
pub unhit : (q r : Id) → hit q r ≡ 0 → id_eq q r ≡ false
unfolding hit
unhit q r h = by (id_eq q r) refl where
  by : (b : Bool) → id_eq q r ≡ b → id_eq q r ≡ false
  by false e = e
  by true e = let k : 1 ≡ 0 = sym (ap (λ b. cond {A = ℕ} b 1 0) e) ∙ h in absurd (omega (arith, k))

pub hit_other : (q r : Id) → id_eq q r ≡ false → hit q r ≡ 0
unfolding hit
hit_other q r e = rw e refl

pub hit_means : (q r : Id) → 0 < hit q r → q ≡ r
unfolding hit
hit_means q r w = by (id_eq q r) refl where
  by : (b : Bool) → id_eq q r ≡ b → q ≡ r
  by true e = id_means q r e
  by false e = let k : cond {A = ℕ} (id_eq q r) 1 0 ≡ 0 = ap (λ b. cond {A = ℕ} b 1 0) e in absurd (omega (arith, k, w))

pub hit_num : (q r : Id) → (q.kind ≡ r.kind → q.num ≡ r.num → ⊥) → hit q r ≡ 0
hit_num q r ne = hit_other q r (by (id_case q r)) where
  by : IdCase q r → id_eq q r ≡ false
  by (inl e) = absurd (ne (ap (λ z. z.kind) e.1) (ap (λ z. z.num) e.1))
  by (inr e) = e

-- A new thing.

pub new_id : Kind → State → Id
new_id k st = record { kind = k; num = st.next k }

pub make_more : (k : Kind) (x : Thing) (st : State) (q : Id) → st.next q.kind ≤ (make k x st).next q.kind
make_more k x st q = by (kind_eq q.kind k) refl where
  by : (b : Bool) → kind_eq q.kind k ≡ b → st.next q.kind ≤ cond {A = ℕ} b (suc (st.next k)) (st.next q.kind)
  by true e = let h : st.next q.kind ≡ st.next k = ap st.next (kind_means q.kind k e) in omega (arith, h)
  by false e = omega arith

pub make_moves : (k : Kind) (x : Thing) (st : State) → ReadsLower (st.next k) (Some x) → Moves st (make k x st) (λ q. 0) (λ q. hit q (record { kind = k; num = st.next k }))
make_moves k x st fits =
    let r : Id = record { kind = k; num = st.next k } in
    record {
      kept = λ q lt zero. ap (λ b. if b then Some x else st.look q) (unhit q r (is_other q lt));
      more = make_more k x st;
      fewer = λ q lt. let h = is_other q lt in omega (arith, h);
      once = λ q. hit_le q r;
      old = λ q le. hit_num q r (λ e f. let h : (make k x st).next q.kind ≡ suc (st.next k) = ap (λ j. cond {A = ℕ} (kind_eq j k) (suc (st.next k)) (st.next j)) e ∙ ap (λ b. cond {A = ℕ} b (suc (st.next k)) (st.next k)) (kind_itself k) in omega (arith, le, h, f));
      still = λ y e. e;
      gone = λ q lt w z. absurd (omega (arith, w));
      lower = λ l i. reads_lower i (l i) (id_case (ref i) r);
    } where
      reads_lower : (i : ℕ) → ReadsLower i (st.look (ref i)) → IdCase (ref i) (record { kind = k; num = st.next k }) → ReadsLower i ((make k x st).look (ref i))
      reads_lower i l (inl e) = subst (λ b. ReadsLower i (if b then Some x else st.look (ref i))) (sym e.0) (subst (λ j. ReadsLower j (Some x)) (sym (ap (λ q. q.num) e.1)) fits)
      reads_lower i l (inr e) = subst (λ b. ReadsLower i (if b then Some x else st.look (ref i))) (sym e) l

      is_other : (q : Id) → q.num < st.next q.kind → hit q (record { kind = k; num = st.next k }) ≡ 0
      is_other q lt = hit_num q (record { kind = k; num = st.next k }) (λ e f. let h : st.next q.kind ≡ st.next k = ap st.next e in omega (arith, lt, h, f))

pub make_at : (k : Kind) (x : Thing) (st : State) → (make k x st).look (record { kind = k; num = st.next k }) ≡ Some x
make_at k x st = ap (λ b. if b then Some x else st.look (record { kind = k; num = st.next k })) (id_itself (record { kind = k; num = st.next k }))

pub make_next : (k : Kind) (x : Thing) (st : State) → (make k x st).next k ≡ suc (st.next k)
make_next k x st = ap (λ b. cond {A = ℕ} b (suc (st.next k)) (st.next k)) (kind_itself k)

-- Lists of ids

pub occurs_append : (q : Id) (xs ys : List Id) → occurs q (xs ++ ys) ≡ occurs q xs + occurs q ys
occurs_append q [] ys = omega arith
occurs_append q (x ∷ xs) ys = let h = occurs_append q xs ys in omega (arith, h)

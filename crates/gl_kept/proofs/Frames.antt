-- What a step over one part leaves to the others, and what it leaves behind.
use Rattle.std.proofs.Common.{◌≡◌, ◌≢◌, ℕ, zero, suc, ◌+◌, ◌<◌, ◌≤◌, true, false, Some, None, refl, sym, ◌∙◌, ap, arith, inl, inr, ◌⊎◌}
use Rattle.std.specs.Prelude.{if◌then◌else◌, nat_eq}
use Rattle.std.proofs.lemmas.Bool.{cases_lt}
use Rattle.std.proofs.lemmas.Bool.Decides.{eqb_tells}
use Rattle.gl_plain.specs.Ids.{Kind, Id, id_eq, hit}
use Rattle.gl_plain.specs.State.{Thing, State, make, dropped}
use Rattle.gl_plain.specs.Stands.{Owned}
use Rattle.gl_plain.proofs.Moves.{nothing_owned, hit_num, unhit, make_more, make_next}

-- A step over a part that had these ids and has those. What isn't the part's own is left alone, no old id is taken, and where G holds nothing
-- that was the part's own, or wasn't there, is there afterwards, but for what the part has then.
pub record Frame (G : Type 0) (st st' : State) (before after : Id → ℕ) : Type 0 where
  pub more : (q : Id) → st.next q.kind ≤ st'.next q.kind
  pub kept : (q : Id) → q.num < st.next q.kind → before q ≡ 0 → st'.look q ≡ st.look q
  pub fresh : (q : Id) → q.num < st.next q.kind → before q ≡ 0 → after q ≡ 0
  pub old : (q : Id) → st'.next q.kind ≤ q.num → after q ≡ 0
  pub clean : G → (q : Id) → after q ≡ 0 → (before q ≡ 0 → st.look q ≡ None) → st'.look q ≡ None

-- a fact that holds for what a part has
abbrev pub New : Type 0 → State → State → (Id → ℕ) → Type 0
New G st st' after = Frame G st st' (λ q. 0) after

module _ (G : Type 0) where
  -- one part after the other
  pub both : (st st1 st2 : State) (a a' b b' : Id → ℕ) → Frame G st st1 a a' → Frame G st1 st2 b b' → Frame G st st2 (λ q. a q + b q) (λ q. a' q + b' q)
  both st st1 st2 a a' b b' m n = record {
    more = λ q. let i = m.more q in let j = n.more q in omega (arith, i, j);
    kept = λ q lt z. let k = m.more q in n.kept q (omega (arith, k, lt)) (omega (arith, z)) ∙ m.kept q lt (omega (arith, z));
    fresh = λ q lt z. let k = m.more q in let i = m.fresh q lt (omega (arith, z)) in let j = n.fresh q (omega (arith, k, lt)) (omega (arith, z)) in omega (arith, i, j);
    old = λ q le. let i = n.more q in let u = m.old q (omega (arith, i, le)) in let v = n.old q le in omega (arith, u, v);
    clean = λ g q z h. n.clean g q (omega (arith, z)) (λ e. m.clean g q (omega (arith, z)) (λ d. h (omega (arith, e, d))));
  }

  -- one step after another over the same part
  pub next : (st st1 st2 : State) (a b c : Id → ℕ) → Frame G st st1 a b → Frame G st1 st2 b c → Frame G st st2 a c
  next st st1 st2 a b c m n = record {
    more = λ q. let i = m.more q in let j = n.more q in omega (arith, i, j);
    kept = λ q lt z. let k = m.more q in n.kept q (omega (arith, k, lt)) (m.fresh q lt z) ∙ m.kept q lt z;
    fresh = λ q lt z. let k = m.more q in n.fresh q (omega (arith, k, lt)) (m.fresh q lt z);
    old = n.old;
    clean = λ g q z h. n.clean g q z (λ e. m.clean g q e h);
  }

  -- the same step, with counts that are the same
  pub recount : (st st' : State) (a a' b b' : Id → ℕ) → ((q : Id) → a q ≡ a' q) → ((q : Id) → b q ≡ b' q) → Frame G st st' a' b' → Frame G st st' a b
  recount st st' a a' b b' e f m = record {
    more = m.more;
    kept = λ q lt z. m.kept q lt (sym (e q) ∙ z);
    fresh = λ q lt z. f q ∙ m.fresh q lt (sym (e q) ∙ z);
    old = λ q le. f q ∙ m.old q le;
    clean = λ g q z h. m.clean g q (sym (f q) ∙ z) (λ d. h (e q ∙ d));
  }

  -- new parts one after the other
  pub new_both : (st st1 st2 : State) (a b : Id → ℕ) → New G st st1 a → New G st1 st2 b → New G st st2 (λ q. a q + b q)
  new_both st st1 st2 a b m n = both st st1 st2 (λ q. 0) a (λ q. 0) b m n

  pub no_step : (st : State) → New G st st (λ q. 0)
  no_step st = record { more = λ q. omega arith; kept = λ q lt z. refl; fresh = λ q lt z. refl; old = λ q le. refl; clean = λ g q z h. h refl }

  -- a part on which nothing is done
  pub idle : (st : State) (a : Id → ℕ) → Owned st a → Frame G st st a a
  idle st a o = record { more = λ q. omega arith; kept = λ q lt z. refl; fresh = λ q lt z. z; old = o.old; clean = λ g q z h. h z }

  -- a part that was done stays while the part beside it is done
  pub first_stays : (st st1 st2 : State) (a a' b b' : Id → ℕ) → Owned st (λ q. a q + b q) → Frame G st st1 a a' → Frame G st1 st2 b b'
      → (q : Id) → 0 < a' q → st2.look q ≡ st1.look q
  first_stays st st1 st2 a a' b b' o m n q w = by_age (cases_lt q.num (st1.next q.kind)) (cases_lt q.num (st.next q.kind)) (a q) refl where
    by_age : ((q.num < st1.next q.kind) ⊎ (st1.next q.kind ≤ q.num)) → ((q.num < st.next q.kind) ⊎ (st.next q.kind ≤ q.num)) → (k : ℕ) → a q ≡ k → st2.look q ≡ st1.look q
    by_age (inr ge) _ k e = let u = m.old q ge in absurd (omega (arith, u, w))
    by_age (inl lt) (inr ge) k e = let u = o.old q ge in n.kept q lt (omega (arith, u))
    by_age (inl lt) (inl lt0) zero e = let u = m.fresh q lt0 e in absurd (omega (arith, u, w))
    by_age (inl lt) (inl lt0) (suc k) e = let u = o.once q in n.kept q lt (omega (arith, u, e))

  -- what stands beside a part keeps its things
  pub second_stays : (st st1 : State) (a a' b : Id → ℕ) → Owned st (λ q. a q + b q) → Frame G st st1 a a' → (q : Id) → 0 < b q → st1.look q ≡ st.look q
  second_stays st st1 a a' b o m q w = m.kept q (is_old (cases_lt q.num (st.next q.kind))) (let i = o.once q in omega (arith, i, w)) where
    is_old : ((q.num < st.next q.kind) ⊎ (st.next q.kind ≤ q.num)) → q.num < st.next q.kind
    is_old (inl lt) = lt
    is_old (inr ge) = let i = o.old q ge in absurd (omega (arith, i, w))

  pub new_stays : (st st1 st2 : State) (a b : Id → ℕ) → New G st st1 a → New G st1 st2 b → (q : Id) → 0 < a q → st2.look q ≡ st1.look q
  new_stays st st1 st2 a b m n q w = first_stays st st1 st2 (λ q. 0) a (λ q. 0) b (nothing_owned st) m n q w

  -- the rest is owned after the part before it
  pub rest_owned : (st st1 : State) (a a' b : Id → ℕ) → Owned st (λ q. a q + b q) → Frame G st st1 a a' → Owned st1 b
  rest_owned st st1 a a' b o m = record {
    once = λ q. let h = o.once q in omega (arith, h);
    old = λ q le. let w = m.more q in let h = o.old q (omega (arith, w, le)) in omega (arith, h);
  }

-- under less
pub under : (G H : Type 0) (st st' : State) (a b : Id → ℕ) → (H → G) → Frame G st st' a b → Frame H st st' a b
under G H st st' a b f m = record { more = m.more; kept = m.kept; fresh = m.fresh; old = m.old; clean = λ h. m.clean (f h) }

pub always : (H : Type 0) (st st' : State) (a b : Id → ℕ) → Frame (Unit {0}) st st' a b → Frame H st st' a b
always H st st' a b m = under (Unit {0}) H st st' a b (λ h. tt) m

-- A new thing.
pub make_new : (k : Kind) (x : Thing) (st : State) → New (Unit {0}) st (make k x st) (λ q. hit q (record { kind = k; num = st.next k }))
make_new k x st =
    let r : Id = record { kind = k; num = st.next k } in
    record {
      more = make_more k x st;
      kept = λ q lt z. other q (unhit q r (is_other q lt));
      fresh = λ q lt z. is_other q lt;
      old = λ q le. hit_num q r (λ e f. let h : (make k x st).next q.kind ≡ suc (st.next k) = ap (make k x st).next e ∙ make_next k x st in omega (arith, le, h, f));
      clean = λ g q z h. other q (unhit q r z) ∙ h refl;
    } where
      is_other : (q : Id) → q.num < st.next q.kind → hit q (record { kind = k; num = st.next k }) ≡ 0
      is_other q lt = hit_num q (record { kind = k; num = st.next k }) (λ e f. let h : st.next q.kind ≡ st.next k = ap st.next e in omega (arith, lt, h, f))

      other : (q : Id) → id_eq q (record { kind = k; num = st.next k }) ≡ false → (make k x st).look q ≡ st.look q
      other q e = ap (λ b. if b then Some x else st.look q) e

-- What goes.
pub drop_frame : (count : Id → ℕ) (st : State) → Frame (Unit {0}) st (dropped count st) count (λ q. 0)
drop_frame count st = record {
  more = λ q. omega arith;
  kept = λ q lt z. goes q z (eqb_tells (count q) 0);
  fresh = λ q lt z. refl;
  old = λ q le. refl;
  clean = λ g q z h. by q h (eqb_tells (count q) 0);
} where
  goes : (q : Id) → count q ≡ 0 → ((nat_eq (count q) 0 ≡ true) × (count q ≡ 0)) ⊎ ((nat_eq (count q) 0 ≡ false) × (count q ≢ 0)) → (dropped count st).look q ≡ st.look q
  goes q z (inl e) = ap (λ b. if b then st.look q else None) e.0
  goes q z (inr e) = absurd (e.1 z)

  by : (q : Id) → (count q ≡ 0 → st.look q ≡ None) → ((nat_eq (count q) 0 ≡ true) × (count q ≡ 0)) ⊎ ((nat_eq (count q) 0 ≡ false) × (count q ≢ 0)) → (dropped count st).look q ≡ None
  by q h (inl e) = ap (λ b. if b then st.look q else None) e.0 ∙ h e.1
  by q h (inr e) = ap (λ b. if b then st.look q else None) e.0

pub always_new : (H : Type 0) (st st' : State) (a : Id → ℕ) → New (Unit {0}) st st' a → New H st st' a
always_new H st st' a m = always H st st' (λ q. 0) a m

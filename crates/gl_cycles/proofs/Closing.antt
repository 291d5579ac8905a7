-- Rows that are led through each place in turn hold all chains.
use Rattle.std.proofs.Common.{◌≡◌, ℕ, ◌+◌, ◌<◌, ◌≤◌, Bool, true, false, cond, List, length, get_or, refl, sym, subst, arith, ◌⊎◌, inl, inr}
use Rattle.std.specs.Prelude.{IsTrue, bit_or}
use Rattle.std.proofs.lemmas.Bool.{false≢true}
use Rattle.std.proofs.lemmas.List.{get_or_past}
use Rattle.gl_cycles.specs.Marks.{has_mark}
use Rattle.gl_cycles.specs.Chains.{IsMarked, Chain, link, joined, IsLedThrough, through}
use Rattle.gl_cycles.proofs.Bits.{marked_left, marked_right, marked_cases, less_or, none_marked}

through_cases : (b : Bool) (row from j : ℕ) → IsTrue (has_mark (cond b (bit_or row from) row) j) → IsTrue (has_mark row j) ⊎ (IsTrue b × IsTrue (has_mark from j))
through_cases false row from j h = inl h
through_cases true row from j h = elim (marked_cases row from j h) [ inl x ↦ inl x | inr y ↦ inr (refl, y) ]

through_keeps : (b : Bool) (row from j : ℕ) → IsTrue (has_mark row j) → IsTrue (has_mark (cond b (bit_or row from) row) j)
through_keeps false row from j h = h
through_keeps true row from j h = marked_left row from j h

through_leads : (b : Bool) (row from j : ℕ) → IsTrue b → IsTrue (has_mark from j) → IsTrue (has_mark (cond b (bit_or row from) row) j)
through_leads false row from j e h = absurd (false≢true e)
through_leads true row from j e h = marked_right row from j h

module _ (middle : ℕ) (old new : List ℕ) (led : IsLedThrough middle old new) where
  at : (i j : ℕ) → IsTrue (has_mark (through middle (get_or old middle 0) (get_or old i 0)) j) → IsMarked new i j
  at i j h = subst (λ (r : ℕ). IsTrue (has_mark r j)) (sym (led i)) h

  -- a new mark is an old one, or leads through the middle
  pub led_cases : (i j : ℕ) → IsMarked new i j → IsMarked old i j ⊎ (IsMarked old i middle × IsMarked old middle j)
  led_cases i j h = through_cases (has_mark (get_or old i 0) middle) (get_or old i 0) (get_or old middle 0) j (subst (λ (r : ℕ). IsTrue (has_mark r j)) (led i) h)

  pub led_keeps : (i j : ℕ) → IsMarked old i j → IsMarked new i j
  led_keeps i j h = at i j (through_keeps (has_mark (get_or old i 0) middle) (get_or old i 0) (get_or old middle 0) j h)

  pub led_leads : (i j : ℕ) → IsMarked old i middle → IsMarked old middle j → IsMarked new i j
  led_leads i j f h = at i j (through_leads (has_mark (get_or old i 0) middle) (get_or old i 0) (get_or old middle 0) j f h)

  to_middle : (i : ℕ) → IsMarked new i middle → IsMarked old i middle
  to_middle i f = elim (led_cases i middle f) [ inl x ↦ x | inr y ↦ y.0 ]

  from_middle : (j : ℕ) → IsMarked new middle j → IsMarked old middle j
  from_middle j h = elim (led_cases middle j h) [ inl x ↦ x | inr y ↦ y.1 ]

  -- where the old rows lead on through what is below the middle, the new ones do through the middle too
  pub led_closed : ((k : ℕ) → k < middle → (i j : ℕ) → IsMarked old i k → IsMarked old k j → IsMarked old i j) → (k : ℕ) → k < middle + 1 → (i j : ℕ) → IsMarked new i k → IsMarked new k j → IsMarked new i j
  led_closed closed k below i j f h = elim (less_or k middle) [
    | inl less ↦ elim (led_cases i k f) [
      | inl f1 ↦ elim (led_cases k j h) [
        | inl h1 ↦ led_keeps i j (closed k less i j f1 h1)
        | inr h2 ↦ led_leads i j (closed k less i middle f1 h2.0) h2.1
      ]
      | inr f2 ↦ elim (led_cases k j h) [
        | inl h1 ↦ led_leads i j f2.0 (closed k less middle j f2.1 h1)
        | inr h2 ↦ led_leads i j f2.0 h2.1
      ]
    ]
    | inr more ↦
        let same : k ≡ middle = omega arith in
        led_leads i j (to_middle i (subst (λ (m : ℕ). IsMarked new i m) same f)) (from_middle j (subst (λ (m : ℕ). IsMarked new m j) same h))
  ]

  pub led_sound : (start : List ℕ) → ((i j : ℕ) → IsMarked old i j → Chain start i j) → (i j : ℕ) → IsMarked new i j → Chain start i j
  led_sound start sound i j h = elim (led_cases i j h) [ inl x ↦ sound i j x | inr y ↦ joined (sound i middle y.0) (sound middle j y.1) ]

-- rows that keep the marks and lead on through all places hold what chains lead to
pub closed_chain : (old new : List ℕ) → ((i j : ℕ) → IsMarked old i j → IsMarked new i j) → ((k i j : ℕ) → IsMarked new i k → IsMarked new k j → IsMarked new i j) → (i j : ℕ) → Chain old i j → IsMarked new i j
closed_chain old new keeps closed i j (link h) = keeps i j h
closed_chain old new keeps closed i j (joined {k = k} f g) = closed k i j (closed_chain old new keeps closed i k f) (closed_chain old new keeps closed k j g)

-- what is no row leads nowhere
through_nothing : (b : Bool) (from : ℕ) → (IsTrue b → ⊥) → 0 ≡ cond b (bit_or 0 from) 0
through_nothing true from never = absurd (never refl)
through_nothing false from never = refl

pub through_past : (middle from : ℕ) (rows : List ℕ) (k : ℕ) → length rows ≤ k → get_or rows k 0 ≡ through middle from (get_or rows k 0)
through_past middle from rows k past = rw (get_or_past rows k 0 past) (through_nothing (has_mark 0 middle) from (none_marked middle))

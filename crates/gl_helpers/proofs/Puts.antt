-- What it is to put a value at a key.
use Rattle.std.proofs.Common.{◌≡◌, ℕ, ◌+◌, ◌-◌, ◌<◌, length, get_or, take, drop, append_assoc, length-drop, List, [], ◌∷◌, ◌++◌, Bool, true, false, cond, refl, sym, ap, ◌∙◌, ◌⊎◌, inl, inr}
use Rattle.std.specs.Prelude.{IsTrue, nat_eq}
use Rattle.std.specs.Str.{bytes_eq}
use Rattle.std.specs.declared.cmp.Ordering.TheVariants.{Less, Greater}
use Rattle.std.proofs.lemmas.List.{take_more, map-append}
use Rattle.std.proofs.Math.Seq.{take-length}
use Rattle.gl_base.specs.Texts.{Text, text_less}
use Rattle.gl_value.specs.Value as v
use Rattle.gl_value.specs.Value.{Value, Members, no_members, member, pairs_of, same, property}
use Rattle.gl_value.specs.Helpers.{put_member, members_of, not_deep}
use Rattle.gl_value.specs.Proper.{IsBefore, Keeps, KeepMembers}
use Rattle.gl_value.specs.View.{seen_pair, seen_pairs}
use Rattle.gl_value.specs.declared.value.Pair.{Pair}
use Rattle.gl_value.proofs.Keeping.{KeepValues}
use Rattle.gl_helpers.specs.Proper.{NamedProper}
use Rattle.gl_helpers.specs.Records.{text_order, put_pair, put_all, changed}
use Rattle.gl_helpers.proofs.Orders.{before_differs, before_not_after, after_differs, after_less, text_itself}

module _ {O : Type 0} where
  -- the members of a choice of pairs
  choose_pairs : (b c : Bool) (p q : Text × Value O) (ps rest : List (Text × Value O)) (ms : Members O) → pairs_of rest ≡ ms → pairs_of (cond b (p ∷ ps) (cond c (p ∷ q ∷ ps) (q ∷ rest))) ≡ cond b (member p.0 p.1 (pairs_of ps)) (cond c (member p.0 p.1 (member q.0 q.1 (pairs_of ps))) (member q.0 q.1 ms))
  choose_pairs true c p q ps rest ms e = refl
  choose_pairs false true p q ps rest ms e = refl
  choose_pairs false false p q ps rest ms e = ap (member q.0 q.1) e

  -- on lists of pairs it is what it is on members
  pub pairs_of-put_pair : (k : Text) (x : Value O) (ps : List (Text × Value O)) → pairs_of (put_pair k x ps) ≡ put_member k x (pairs_of ps)
  pairs_of-put_pair k x [] = refl
  pairs_of-put_pair k x (p ∷ ps) = choose_pairs (bytes_eq k p.0) (text_less k p.0) (k, x) p ps (put_pair k x ps) (put_member k x (pairs_of ps)) (pairs_of-put_pair k x ps)

  pub pairs_of-put_all : (ps es : List (Text × Value O)) → pairs_of (put_all ps es) ≡ members_of (pairs_of ps) es
  pairs_of-put_all ps [] = refl
  pairs_of-put_all ps (e ∷ es) = pairs_of-put_all (put_pair e.0 e.1 ps) es ∙ ap (λ ms. members_of ms es) (pairs_of-put_pair e.0 e.1 ps)

  pub put_same : (k l : Text) (x y : Value O) (ps r : List (Text × Value O)) (ms : Members O) → r ≡ put_pair k x ps → k ≡ l → x ≡ y → pairs_of ps ≡ ms → pairs_of r ≡ put_member l y ms
  put_same k l x y ps r ms is e f g = ap pairs_of is ∙ pairs_of-put_pair k x ps ∙ rw (e, f, g) refl

  -- past a pair of a lesser key, at one of the same key, and before one of a greater key
  pub put_past : (k : Text) (x : Value O) (p : Text × Value O) (ps : List (Text × Value O)) → text_order p.0 k ≡ Less → put_pair k x (p ∷ ps) ≡ p ∷ put_pair k x ps
  put_past k x p ps e = rw (before_differs k p.0 e, before_not_after k p.0 e) refl

  pub put_over : (k : Text) (x : Value O) (p : Text × Value O) (ps : List (Text × Value O)) → p.0 ≡ k → put_pair k x (p ∷ ps) ≡ (k, x) ∷ ps
  put_over k x p ps e = rw (e, text_itself k) refl

  pub put_ahead : (k : Text) (x : Value O) (p : Text × Value O) (ps : List (Text × Value O)) → text_order p.0 k ≡ Greater → put_pair k x (p ∷ ps) ≡ (k, x) ∷ p ∷ ps
  put_ahead k x p ps e = rw (after_differs k p.0 e, after_less k p.0 e) refl

  -- each key that is passed before the place is less, and the place is that of the key or before a greater key
  abbrev pub Orders : Text → List (Text × Value O) → Type 0
  Orders k [] = Unit {0}
  Orders k (p ∷ ps) = ((text_order p.0 k ≡ Less) × Orders k ps) ⊎ ((p.0 ≡ k) ⊎ (text_order p.0 k ≡ Greater))

  before_chosen : (l : Text) (b c : Bool) (p q : Text × Value O) (ps rest : List (Text × Value O)) → IsTrue (text_less l p.0) → IsTrue (text_less l q.0) → IsBefore l (pairs_of (cond b (p ∷ ps) (cond c (p ∷ q ∷ ps) (q ∷ rest))))
  before_chosen l true c p q ps rest h k = h
  before_chosen l false true p q ps rest h k = h
  before_chosen l false false p q ps rest h k = k

  before_put : (l k : Text) (x : Value O) (ps : List (Text × Value O)) → IsTrue (text_less l k) → IsBefore l (pairs_of ps) → IsBefore l (pairs_of (put_pair k x ps))
  before_put l k x [] h b = h
  before_put l k x (p ∷ ps) h b = before_chosen l (bytes_eq k p.0) (text_less k p.0) (k, x) p ps (put_pair k x ps) h b

  -- so the keys rise still
  pub keeps_put : (k : Text) (x : Value O) (ps : List (Text × Value O)) → Orders k ps → KeepMembers (pairs_of ps) → Keeps x → KeepMembers (pairs_of (put_pair k x ps))
  keeps_put k x [] o h v = (tt, v, tt)
  keeps_put k x (p ∷ ps) (inl o) h v = rw (put_past k x p ps o.0) (before_put p.0 k x ps (rw o.0 refl) h.0, h.1, keeps_put k x ps o.1 h.2 v)
  keeps_put k x (p ∷ ps) (inr (inl e)) h v = rw (put_over k x p ps e) (rw e at h.0, v, h.2)
  keeps_put k x (p ∷ ps) (inr (inr o)) h v = rw (put_ahead k x p ps o) (after_less k p.0 o, v, h)

  -- one more pair is passed
  pub put_next : (k : Text) (x : Value O) (p : Text × Value O) (front more rest all : List (Text × Value O)) → text_order p.0 k ≡ Less → more ≡ front ++ p ∷ [] → front ++ put_pair k x (p ∷ rest) ≡ all → more ++ put_pair k x rest ≡ all
  put_next k x p front more rest all o e whole = ap (λ l. l ++ put_pair k x rest) e ∙ append_assoc front (p ∷ []) (put_pair k x rest) ∙ ap (λ l. front ++ l) (sym (put_past k x p rest o)) ∙ whole

  -- each value that is put keeps what it keeps
  values_chosen : (b c : Bool) (p q : Text × Value O) (ps rest : List (Text × Value O)) → Keeps p.1 → KeepValues (q ∷ ps) → KeepValues rest → KeepValues (cond b (p ∷ ps) (cond c (p ∷ q ∷ ps) (q ∷ rest)))
  values_chosen true c p q ps rest h k r = (h, k.1)
  values_chosen false true p q ps rest h k r = (h, k)
  values_chosen false false p q ps rest h k r = (k.0, r)

  values_put : (k : Text) (x : Value O) (ps : List (Text × Value O)) → KeepValues ps → Keeps x → KeepValues (put_pair k x ps)
  values_put k x [] h v = (v, tt)
  values_put k x (p ∷ ps) h v = values_chosen (bytes_eq k p.0) (text_less k p.0) (k, x) p ps (put_pair k x ps) v h (values_put k x ps h.1 v)

  pub values_put_all : (ps es : List (Text × Value O)) → KeepValues ps → NamedProper es → KeepValues (put_all ps es)
  values_put_all ps [] h n = h
  values_put_all ps (e ∷ es) h n = values_put_all (put_pair e.0 e.1 ps) es (values_put e.0 e.1 ps h n.0.1) n.1

-- the pairs up to the one at a place, and it
pub pairs_more : (pairs : List Pair) (i : ℕ) (p : Pair) → i < length pairs → p ≡ get_or pairs i p → seen_pairs (take (i + 1) pairs) ≡ seen_pairs (take i pairs) ++ seen_pair p ∷ []
pairs_more pairs i p h is = ap seen_pairs (take_more pairs i p h ∙ ap (λ q. take i pairs ++ q ∷ []) (sym is)) ∙ map-append seen_pair (take i pairs) (p ∷ [])

pub whole_rest : (pairs : List Pair) (i : ℕ) → take (length pairs - i) (drop i pairs) ≡ drop i pairs
whole_rest pairs i = rw (← length-drop i pairs) (take-length (drop i pairs))

-- a record that has the property, with the value put in
pub changed_record : (n : Text) (w : Value ℕ) (k : Text) (y : Value ℕ) (ps qs : List (Text × Value ℕ)) → true ≡ same nat_eq (property n (v.pairs (pairs_of ps))) w → qs ≡ put_pair k y ps → not_deep (v.pairs (pairs_of qs)) ≡ changed n w k y (v.pairs (pairs_of ps))
changed_record n w k y ps qs has e = rw (← has) (ap (λ ms. not_deep (v.pairs ms)) (ap pairs_of e ∙ pairs_of-put_pair k y ps))

-- What each step of an update leaves.
use Rattle.std.proofs.Common.{◌≡◌, ℕ, ◌<◌, ◌≤◌, List, [], ◌∷◌, Bool, true, false, ◌||◌, true≢false, Some, None, cond, refl, ◌∙◌, ap, arith, inl, inr}
use Rattle.std.specs.Prelude.{if◌then◌else◌, nat_eq}
use Rattle.gl_meaning.specs.Path.{V, path_eq}
use Rattle.gl_value.specs.Value.{text_of, same}
use Rattle.gl_meaning.specs.Scope.{Source}
use Rattle.gl_meaning.specs.Eval.{values_in}
use Rattle.gl_meaning.specs.Parts.{attribute_value}
use Rattle.gl_plain.specs.Ids.{a_node, Kind, Id, id_eq, ref, node, modifier_id}
use Rattle.gl_plain.specs.State.{State, Thing, put_thing, touch, make, source_eq, note_updated, held_value, content, text_content, comment_content, modifier_row, dropped}
use Rattle.gl_plain.specs.Naming.{Naming, made_source, dropped_as}
use Rattle.gl_plain.specs.Binding.{first_value, made_row}
use Rattle.gl_plain.specs.Live.{AttrSpot, ModSpot, have_node}
use Rattle.gl_plain.specs.Grow.{made_node}
use Rattle.gl_plain.specs.Renew.{spot_pairs, is_stale, evaluate, reread, renew_text, renew_attrs, renew_mods, changed_attr, refreshed, give}
use Rattle.gl_plain.proofs.Moves.{IdCase, id_case, unhit, hit_num, make_more}
use Rattle.gl_machine.specs.Code.{Codes, lives_of}
use Rattle.gl_machine.specs.Outcome.{Outcome, ok, deep, lost, on_ok}
use Rattle.gl_machine.specs.RenewCode.{CodeArm, commented}
use Rattle.gl_machine.proofs.Following.{either}
use Rattle.gl_guards.specs.Settled.{IsGiven, Leaves, Ended, NotesApart}

-- Outcomes

pub ended_on : {A B : Type 0} (o : Outcome A) (f : A → Outcome B) (P : A → Type 0) (Q : B → Type 0) → Ended o P → ((x : A) → P x → Ended (f x) Q) → Ended (on_ok o f) Q
ended_on (ok x) f P Q h k = k x h
ended_on deep f P Q h k = tt
ended_on lost f P Q h k = tt

pub on_same : {A B : Type 0} (o : Outcome A) (f g : A → Outcome B) (P : A → Type 0) → Ended o P → ((x : A) → P x → f x ≡ g x) → on_ok o f ≡ on_ok o g
on_same (ok x) f g P h k = k x h
on_same deep f g P h k = refl
on_same lost f g P h k = refl

-- Steps

abbrev pub Within : (Id → ℕ) → (Id → ℕ) → Type 0
Within a c = (q : Id) → c q ≡ 0 → a q ≡ 0

pub itself : (c : Id → ℕ) → Within c c
itself c q z = z

pub nothing : (c : Id → ℕ) → Within (λ q. 0) c
nothing c q z = refl

abbrev pub CountsAttrs : (Id → ℕ) → List AttrSpot → Type 0
CountsAttrs c [] = Unit {0}
CountsAttrs c (a ∷ xs) = (0 < c (ref a.spot.ref)) × CountsAttrs c xs

abbrev pub CountsMods : (Id → ℕ) → List ModSpot → Type 0
CountsMods c [] = Unit {0}
CountsMods c (z ∷ zs) = (0 < c (modifier_id z.id)) × (0 < c (ref z.spot.ref)) × CountsMods c zs

module _ (naming : Naming) where
  pub given_more : (st st' : State) → ((q : Id) → st.next q.kind ≤ st'.next q.kind) → (y : Source) → IsGiven naming st y → IsGiven naming st' y
  given_more st st' m y (r, lt, p, n, h) = (r, (let i = m (ref r) in omega (arith, i, lt)), p, n, h)

  pub all_left : (st : State) (c : Id → ℕ) → Leaves naming st st c
  all_left st c = record { more = λ q. omega arith; rows = λ q lt z. refl; still = λ y g e. e }

  pub left_more : (st st' : State) (a c : Id → ℕ) → Within a c → Leaves naming st st' a → Leaves naming st st' c
  left_more st st' a c w h = record { more = h.more; rows = λ q lt z. h.rows q lt (w q z); still = h.still }

  pub left_then : (st st1 st2 : State) (a b c : Id → ℕ) → Within a c → Within b c → Leaves naming st st1 a → Leaves naming st1 st2 b → Leaves naming st st2 c
  left_then st st1 st2 a b c v w h k = record {
    more = λ q. let i = h.more q in let j = k.more q in omega (arith, i, j);
    rows = λ q lt z. k.rows q (let i = h.more q in omega (arith, i, lt)) (w q z) ∙ h.rows q lt (v q z);
    still = λ y g e. h.still y g (k.still y (given_more st st1 h.more y g) e);
  }

  -- another thing for an id of the part
  pub put_left : (i : Id) (x : Thing) (st : State) (c : Id → ℕ) → 0 < c i → Leaves naming st (put_thing i x st) c
  put_left i x st c w = record { more = λ q. omega arith; rows = λ q lt z. ap (λ b. if b then Some x else st.look q) (by q z (id_case q i)); still = λ y g e. e } where
    by : (q : Id) → c q ≡ 0 → IdCase q i → id_eq q i ≡ false
    by q z (inl e) = let k : c q ≡ c i = ap c e.1 in absurd (omega (arith, z, k, w))
    by q z (inr e) = e

  pub evaluate_left : (r : ℕ) (st : State) (c : Id → ℕ) → 0 < c (ref r) → Leaves naming st (evaluate r st) c
  evaluate_left r st c w = let h = put_left (ref r) _ st c w in record { more = h.more; rows = h.rows; still = h.still }

  pub reread_left : (r : ℕ) (st : State) (c : Id → ℕ) → 0 < c (ref r) → Leaves naming st (reread r st) c
  reread_left r st c w = either (is_stale st r) (λ b. Leaves naming st (if b then evaluate r st else st) c) (evaluate_left r st c w) (all_left st c)

  pub text_left : (n r : ℕ) (st : State) (c : Id → ℕ) → 0 < c (node n) → 0 < c (ref r) → Leaves naming st (renew_text n r st) c
  text_left n r st c v w =
      let x = content (text_content (text_of (first_value (spot_pairs st r)))) in
      either (is_stale st r) (λ b. Leaves naming st (if b then put_thing (node n) x (evaluate r st) else st) c)
      (left_then st (evaluate r st) (put_thing (node n) x (evaluate r st)) c c c (itself c) (itself c) (evaluate_left r st c w) (put_left (node n) x (evaluate r st) c v)) (all_left st c)

  pub attrs_left : (n : ℕ) (xs : List AttrSpot) (st : State) (c : Id → ℕ) → 0 < c (node n) → CountsAttrs c xs → Leaves naming st (renew_attrs n xs st) c
  attrs_left n [] st c v h = all_left st c
  attrs_left n (a ∷ xs) st c v h =
      let x = content (changed_attr a.name (attribute_value (spot_pairs st a.spot.ref)) (st.look (node n))) in
      let e = evaluate a.spot.ref st in
      either (is_stale st a.spot.ref) (λ b. Leaves naming st (renew_attrs n xs (if b then put_thing (node n) x e else st)) c)
      (left_then st (put_thing (node n) x e) (renew_attrs n xs (put_thing (node n) x e)) c c c (itself c) (itself c)
      (left_then st e (put_thing (node n) x e) c c c (itself c) (itself c) (evaluate_left a.spot.ref st c h.0) (put_left (node n) x e c v)) (attrs_left n xs (put_thing (node n) x e) c v h.1))
      (attrs_left n xs st c v h.1)

  pub mods_left : (zs : List ModSpot) (st : State) (c : Id → ℕ) → CountsMods c zs → Leaves naming st (renew_mods zs st) c
  mods_left [] st c h = all_left st c
  mods_left (z ∷ zs) st c h =
      let x = modifier_row (refreshed z (values_in (spot_pairs st z.spot.ref)) (st.look (modifier_id z.id))) in
      let e = evaluate z.spot.ref st in
      let p = put_left (modifier_id z.id) x e c h.0 in
      let n : Leaves naming e (note_updated z.id (put_thing (modifier_id z.id) x e)) c = record { more = p.more; rows = p.rows; still = p.still } in
      let st1 = note_updated z.id (put_thing (modifier_id z.id) x e) in
      either (is_stale st z.spot.ref) (λ b. Leaves naming st (renew_mods zs (if b then st1 else st)) c)
      (left_then st st1 (renew_mods zs st1) c c c (itself c) (itself c) (left_then st e st1 c c c (itself c) (itself c) (evaluate_left z.spot.ref st c h.1) n) (mods_left zs st1 c h.2))
      (mods_left zs st c h.2)

  or_right : (a b : Bool) → (a || b) ≡ false → b ≡ false
  or_right false b e = e
  or_right true b e = absurd (true≢false e)

  pub touch_left : (r : ℕ) (x : Source) (v : V) (st : State) (c : Id → ℕ) → 0 < c (ref r) → Leaves naming st (touch r x v st) c
  touch_left r x v st c w = let h = put_left (ref r) _ st c w in record { more = h.more; rows = h.rows; still = λ y g e. or_right (source_eq y x) (st.touched y) e }

  pub give_left : (r : ℕ) (x : Source) (v : V) (st : State) (c : Id → ℕ) → 0 < c (ref r) → Leaves naming st (give r x v st) c
  give_left r x v st c w = either (same path_eq (held_value (st.look (ref r))) v) (λ b. Leaves naming st (if b then st else touch r x v st) c) (all_left st c) (touch_left r x v st c w)

  -- a thing is made
  pub make_left : (k : Kind) (x : Thing) (st : State) (c : Id → ℕ) → Leaves naming st (make k x st) c
  make_left k x st c = record {
    more = make_more k x st;
    rows = λ q lt z.
        let new : Id = record { kind = k; num = st.next k } in
        ap (λ b. if b then Some x else st.look q) (unhit q new (hit_num q new (λ e f. let i : st.next q.kind ≡ st.next k = ap st.next e in omega (arith, lt, i, f))));
    still = λ y g e. e;
  }

  -- with a comment, where it is made
  pub commented_left : (st : State) (c : Id → ℕ) (r : Codes × State) → Leaves naming st r.1 c → Leaves naming st (commented r).state c
  commented_left st c r h =
      let x = made_node (comment_content []) r.1 in
      either (have_node (lives_of r.0))
      (λ b. Leaves naming st (cond {A = CodeArm} b (record { comment = None; codes = r.0; state = r.1 }) (record { comment = Some (r.1.next a_node); codes = r.0; state = x })).state c) h
      (left_then st r.1 x c c c (itself c) (itself c) h (make_left a_node (content (comment_content [])) r.1 c))

module _ (naming : Naming) (notes : NotesApart naming) where
  -- what is counted goes
  pub dropped_left : (count : Id → ℕ) (st : State) → Leaves naming st (dropped_as naming count st) count
  dropped_left count st =
      let d : Leaves naming st (dropped count st) count = record {
        more = λ q. omega arith;
        rows = λ q lt z. ap (λ n. if nat_eq n 0 then st.look q else None) z;
        still = λ y g e. e;
      } in
      left_then naming st (dropped count st) (dropped_as naming count st) count (λ q. 0) count (itself count) (nothing count) d (notes.went count (dropped count st))

  -- a source is made
  pub source_left : (x : Source) (v : V) (st : State) → Leaves naming st (made_source naming x v st) (λ q. 0)
  source_left x v st =
      let st1 = made_row (Rattle.gl_plain.specs.State.source_form x v) st in
      left_then naming st st1 (naming.came x st1) (λ q. 0) (λ q. 0) (λ q. 0) (λ q z. z) (λ q z. z) (make_left naming _ _ st (λ q. 0)) (notes.came x st1)

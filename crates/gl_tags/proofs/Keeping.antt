-- What leaves a kept touch right.
use Rattle.std.proofs.Common.{◌≡◌, ◌≢◌, ℕ, ◌+◌, true, false, Bool, not, List, [], ◌∷◌, map, Option, Some, None, option_map, refl, sym, ap, subst, ◌∙◌, arith, ◌⊎◌, inl, inr, IsSome, get_or, set, zero, suc, cond, flat_map, Result, Ok, Err, IfOk, OnErr}
use Rattle.std.specs.Prelude.{◌==◌}
use Rattle.std.specs.List.{list_any}
use Rattle.std.proofs.lemmas.Bool.{or_parts}
use Rattle.gl_arena.specs.Id.{Id, same_id}
use Rattle.gl_arena.specs.Arena.{Arena, stamped, named, with_value, Gives, Ends}
use Rattle.gl_arena.proofs.Ids.{id_cases, same_id-refl, same_id-other}
use Rattle.gl_arena.proofs.Values.{Writes, with_value-writes}
use Rattle.gl_tags.specs.Tags as m
use Rattle.gl_tags.specs.View.{seen_tag, tags_in, touch_of, kept_as, IsKept, AreKept}
use Rattle.gl_arena.proofs.Mapped.{named-mapped, gives-mapped, ends-mapped, with_value-mapped, live-mapped}
use Rattle.gl_tags.specs.declared.tag.Tag.{Tag}
use Rattle.gl_tags.specs.declared.tag.Tag.TheVariants.{Constant, Dirtyable, Combined}
use Rattle.gl_tags.specs.declared.tag.Touch.{Touch}

module _ (a b : Arena m.Tag) (p : Id → Bool) (same : (k : Id) → p k ≡ false → named b k ≡ named a k) where
  pub reads_stay : (f : Option m.Tag → ℕ) (leads : List Id) → list_any p leads ≡ false → map (λ t. f (named b t)) leads ≡ map (λ t. f (named a t)) leads
  reads_stay f [] h = refl
  reads_stay f (x ∷ xs) h = let e = or_parts (p x) (list_any p xs) h in rw (ap f (same x e.0), reads_stay f xs e.1) refl

  fixed_stay : (leads : List Id) → list_any p leads ≡ false → list_any (λ k. not (m.is_dirtyable (named a k))) leads ≡ false → list_any (λ k. not (m.is_dirtyable (named b k))) leads ≡ false
  fixed_stay [] h g = refl
  fixed_stay (x ∷ xs) h g =
      let e = or_parts (p x) (list_any p xs) h in
      let d = or_parts (not (m.is_dirtyable (named a x))) (list_any (λ k. not (m.is_dirtyable (named a k))) xs) g in
      rw (ap (λ o. not (m.is_dirtyable o)) (same x e.0) ∙ d.0, fixed_stay xs e.1 d.1) refl

  touch_stays : (leads : List Id) → list_any p leads ≡ false → touch_of b (Some (m.combined leads)) ≡ touch_of a (Some (m.combined leads))
  touch_stays leads h =
      let r = ap (m.greatest_from 0) (reads_stay m.revision leads h) in
      let o = ap (m.greatest_from 0) (reads_stay m.order leads h) in
      λ t. record { revision = r t; order = o t }

  -- a tag that stays is as right as it was
  pub right_stays : (clock c : ℕ) (o : Option m.Tag) → ((leads : List Id) → o ≡ Some (m.combined leads) → list_any p leads ≡ false) → m.IsRight a clock c o → m.IsRight b clock c o
  right_stays clock c None h r = r
  right_stays clock c (Some m.constant) h r = r
  right_stays clock c (Some (m.dirtyable r o)) h g = g
  right_stays clock c (Some (m.combined leads)) h g = fixed_stay leads (h leads refl) g

  pub kept_stays : (c : ℕ) (o : Option Tag) → ((leads : List Id) → option_map seen_tag o ≡ Some (m.combined leads) → list_any p leads ≡ false) → IsKept a c o → IsKept b c o
  kept_stays c None h r = r
  kept_stays c (Some Constant) h r = r
  kept_stays c (Some (Dirtyable t)) h r = r
  kept_stays c (Some (Combined leads kept mark)) h r = (r.0, λ e. r.1 e ∙ sym (touch_stays leads.items (h leads.items refl)))

pub not_false : (b : Bool) → not b ≡ false → b ≡ true
not_false true h = refl
not_false false h = absurd (let n : true ≡ false = h in cc)

combined_right : (a : Arena m.Tag) (clock c : ℕ) (o : Option m.Tag) (leads : List Id) → m.IsRight a clock c o → o ≡ Some (m.combined leads) → list_any (λ k. not (m.is_dirtyable (named a k))) leads ≡ false
combined_right a clock c o leads r e = subst (m.IsRight a clock c) e r

-- a new id changes nothing of the others
pub given_kept : (old new : Arena Tag) (still : Id) (clock c : ℕ) (i : Id) (t : Tag) → AreKept old still clock c → Gives old new i t
    → m.IsRight (tags_in old) clock c (Some (seen_tag t)) → IsKept (tags_in old) c (Some t) → AreKept new still clock c
given_kept old new still clock c i t k g r e = record {
  sound = record {
    still = others still (ne_still k.sound.still) ∙ k.sound.still;
    right = λ j. right j (id_cases j i);
  };
  kept = λ j. kept j (id_cases j i);
} where
  q : Gives (tags_in old) (tags_in new) i (seen_tag t)
  q = gives-mapped seen_tag old new i t g

  others : (j : Id) → j ≢ i → named (tags_in new) j ≡ named (tags_in old) j
  others = q.others

  ne_still : named (tags_in old) still ≡ Some m.constant → still ≢ i
  ne_still h e = absurd (let n : None ≡ Some m.constant = sym q.vacant ∙ (ap (named (tags_in old)) (sym e) ∙ h) in cc)

  stay : (j : Id) → not (m.is_dirtyable (named (tags_in old) j)) ≡ false → named (tags_in new) j ≡ named (tags_in old) j
  stay j h = others j (λ e. absurd (let n : true ≡ false = sym (ap (λ o. not (m.is_dirtyable o)) (ap (named (tags_in old)) e ∙ q.vacant)) ∙ h in cc))

  right : (j : Id) → (j ≡ i) ⊎ (j ≢ i) → m.IsRight (tags_in new) clock c (named (tags_in new) j)
  right j (inl s) = subst (m.IsRight (tags_in new) clock c) (sym (ap (named (tags_in new)) s ∙ q.given))
      (right_stays (tags_in old) (tags_in new) (λ n. not (m.is_dirtyable (named (tags_in old) n))) stay clock c (Some (seen_tag t)) (λ leads h. combined_right (tags_in old) clock c (Some (seen_tag t)) leads r h) r)
  right j (inr ne) = subst (m.IsRight (tags_in new) clock c) (sym (others j ne))
      (right_stays (tags_in old) (tags_in new) (λ n. not (m.is_dirtyable (named (tags_in old) n))) stay clock c (named (tags_in old) j) (λ leads h. combined_right (tags_in old) clock c (named (tags_in old) j) leads (k.sound.right j) h) (k.sound.right j))

  kept : (j : Id) → (j ≡ i) ⊎ (j ≢ i) → IsKept (tags_in new) c (named new j)
  kept j (inl s) = subst (IsKept (tags_in new) c) (sym (ap (named new) s ∙ g.given))
      (kept_stays (tags_in old) (tags_in new) (λ n. not (m.is_dirtyable (named (tags_in old) n))) stay c (Some t) (λ leads h. combined_right (tags_in old) clock c (Some (seen_tag t)) leads r h) e)
  kept j (inr ne) = subst (IsKept (tags_in new) c) (sym (g.others j ne))
      (kept_stays (tags_in old) (tags_in new) (λ n. not (m.is_dirtyable (named (tags_in old) n))) stay c (named old j)
      (λ leads h. combined_right (tags_in old) clock c (named (tags_in old) j) leads (k.sound.right j) (named-mapped seen_tag old j ∙ h)) (k.kept j))

-- an id that no combined tag leads to is ended
pub ended_kept : (old new : Arena Tag) (still : Id) (clock c : ℕ) (i : Id) → AreKept old still clock c → Ends old new i → i ≢ still
    → ((k : Id) (leads : List Id) → named (tags_in old) k ≡ Some (m.combined leads) → list_any (same_id i) leads ≡ false) → AreKept new still clock c
ended_kept old new still clock c i k g ne un = record {
  sound = record {
    still = q.others still (λ e. ne (sym e)) ∙ k.sound.still;
    right = λ j. right j (id_cases j i);
  };
  kept = λ j. kept j (id_cases j i);
} where
  q : Ends (tags_in old) (tags_in new) i
  q = ends-mapped seen_tag old new i g

  stay : (j : Id) → same_id i j ≡ false → named (tags_in new) j ≡ named (tags_in old) j
  stay j h = q.others j (λ e. absurd (let n : true ≡ false = sym (same_id-refl i) ∙ (ap (same_id i) (sym e) ∙ h) in cc))

  right : (j : Id) → (j ≡ i) ⊎ (j ≢ i) → m.IsRight (tags_in new) clock c (named (tags_in new) j)
  right j (inl s) = subst (m.IsRight (tags_in new) clock c) (sym (ap (named (tags_in new)) s ∙ q.ended)) tt
  right j (inr n) = subst (m.IsRight (tags_in new) clock c) (sym (q.others j n))
      (right_stays (tags_in old) (tags_in new) (same_id i) stay clock c (named (tags_in old) j) (un j) (k.sound.right j))

  kept : (j : Id) → (j ≡ i) ⊎ (j ≢ i) → IsKept (tags_in new) c (named new j)
  kept j (inl s) = subst (IsKept (tags_in new) c) (sym (ap (named new) s ∙ g.ended)) tt
  kept j (inr n) = subst (IsKept (tags_in new) c) (sym (g.others j n))
      (kept_stays (tags_in old) (tags_in new) (same_id i) stay c (named old j) (λ leads h. un j leads (named-mapped seen_tag old j ∙ h)) (k.kept j))

fixed_writes : (a b : Arena m.Tag) (i : Id) (r o : ℕ) → m.is_dirtyable (named a i) ≡ true → Writes a b i (m.dirtyable r o) → (leads : List Id)
    → list_any (λ k. not (m.is_dirtyable (named a k))) leads ≡ false → list_any (λ k. not (m.is_dirtyable (named b k))) leads ≡ false
fixed_writes a b i r o d w [] g = refl
fixed_writes a b i r o d w (x ∷ xs) g =
    let e = or_parts (not (m.is_dirtyable (named a x))) (list_any (λ k. not (m.is_dirtyable (named a k))) xs) g in
    rw (one (id_cases x i) e.0, fixed_writes a b i r o d w xs e.1) refl where
      one : (x ≡ i) ⊎ (x ≢ i) → not (m.is_dirtyable (named a x)) ≡ false → not (m.is_dirtyable (named b x)) ≡ false
      one (inl s) h = ap (λ o. not (m.is_dirtyable o)) (ap (named b) s ∙ w.given)
      one (inr n) h = ap (λ o. not (m.is_dirtyable o)) (w.others x n) ∙ h

-- a dirtyable tag is dirtied
pub dirtied_kept : (old : Arena Tag) (still : Id) (clock c : ℕ) (i : Id) → AreKept old still clock c → IsSome (named old i) → m.is_dirtyable (named (tags_in old) i) ≡ true
    → AreKept (with_value old i (Dirtyable (record { revision = clock; order = c + 1 }))) still clock (c + 1)
dirtied_kept old still clock c i k live d = record {
  sound = record {
    still = q.others still ne ∙ k.sound.still;
    right = λ j. right j (id_cases j i);
  };
  kept = λ j. kept j (id_cases j i);
} where
  tag : Tag
  tag = Dirtyable (record { revision = clock; order = c + 1 })

  new : Arena Tag
  new = with_value old i tag

  w : Writes old new i tag
  w = with_value-writes old i tag live

  q : Writes (tags_in old) (tags_in new) i (m.dirtyable clock (c + 1))
  q = record {
    count = refl;
    given = named-mapped seen_tag new i ∙ ap (option_map seen_tag) w.given;
    others = λ j n. named-mapped seen_tag new j ∙ (ap (option_map seen_tag) (w.others j n) ∙ sym (named-mapped seen_tag old j));
    lives = let l = w.lives in rw (live-mapped seen_tag new, live-mapped seen_tag old) l;
  }

  ne : still ≢ i
  ne e = absurd (let n : false ≡ true = sym (ap m.is_dirtyable (ap (named (tags_in old)) (sym e) ∙ k.sound.still)) ∙ d in cc)

  more : (o : Option m.Tag) → m.IsRight (tags_in old) clock c o → m.IsRight (tags_in new) clock (c + 1) o
  more None g = tt
  more (Some m.constant) g = tt
  more (Some (m.dirtyable x y)) g = let le = g.1 in (g.0, omega (arith, le))
  more (Some (m.combined leads)) g = fixed_writes (tags_in old) (tags_in new) i clock (c + 1) d q leads g

  right : (j : Id) → (j ≡ i) ⊎ (j ≢ i) → m.IsRight (tags_in new) clock (c + 1) (named (tags_in new) j)
  right j (inl s) = subst (m.IsRight (tags_in new) clock (c + 1)) (sym (ap (named (tags_in new)) s ∙ q.given)) (omega arith, omega arith)
  right j (inr n) = subst (m.IsRight (tags_in new) clock (c + 1)) (sym (q.others j n)) (more (named (tags_in old) j) (k.sound.right j))

  older : (o : Option Tag) → IsKept (tags_in old) c o → IsKept (tags_in new) (c + 1) o
  older None g = tt
  older (Some Constant) g = tt
  older (Some (Dirtyable x)) g = tt
  older (Some (Combined leads kept mark)) g = let le = g.0 in (omega (arith, le), λ e. absurd (omega (arith, le, e)))

  kept : (j : Id) → (j ≡ i) ⊎ (j ≢ i) → IsKept (tags_in new) (c + 1) (named new j)
  kept j (inl s) = subst (IsKept (tags_in new) (c + 1)) (sym (ap (named new) s ∙ w.given)) tt
  kept j (inr n) = subst (IsKept (tags_in new) (c + 1)) (sym (w.others j n)) (older (named old j) (k.kept j))

-- the clock rises
pub advanced_kept : (a : Arena Tag) (still : Id) (clock c : ℕ) → AreKept a still clock c → AreKept a still (clock + 1) c
advanced_kept a still clock c k = record { sound = record { still = k.sound.still; right = λ i. later (named (tags_in a) i) (k.sound.right i) }; kept = k.kept } where
  later : (o : Option m.Tag) → m.IsRight (tags_in a) clock c o → m.IsRight (tags_in a) (clock + 1) c o
  later None g = tt
  later (Some m.constant) g = tt
  later (Some (m.dirtyable r o)) g = let le = g.0 in (omega (arith, le), g.1)
  later (Some (m.combined leads)) g = g

-- a kept value changes no tag
kept_seen : (t : Tag) (v : Touch) (c : ℕ) → seen_tag (kept_as t v c) ≡ seen_tag t
kept_seen (Combined leads kept mark) v c = refl
kept_seen Constant v c = refl
kept_seen (Dirtyable r) v c = refl

set_back : {A : Type 0} (xs : List A) (i : ℕ) (x d : A) → get_or xs i d ≡ x → set xs i x ≡ xs
set_back [] i x d e = refl
set_back (y ∷ xs) zero x d e = ap (λ z. z ∷ xs) (sym e)
set_back (y ∷ xs) (suc i) x d e = ap (λ ys. y ∷ ys) (set_back xs i x d e)

named_place : {A : Type 0} (k : ℕ) (o : Option (ℕ × A)) (v : A) → stamped k o ≡ Some v → o ≡ Some (k, v)
named_place k None v e = absurd (let n : None ≡ Some v = e in cc)
named_place k (Some x) v e = by (x.0 == k) refl e where
  by : (b : Bool) → (x.0 == k) ≡ b → cond b (Some x.1) None ≡ Some v → Some x ≡ Some (k, v)
  by true h g = let s : x.0 ≡ k = grind arith in let t : x.1 ≡ v = cc in ap (λ y. Some y) (λ n. (s n, t n))
  by false h g = absurd (let n : None ≡ Some v = g in cc)

-- a value written where it stands changes nothing
pub with_value-same : {A : Type 0} (a : Arena A) (i : Id) (v : A) → named a i ≡ Some v → with_value a i v ≡ a
with_value-same a i v e = ap (λ s. record a { slots = s }) (set_back a.slots i.0 (Some (i.1, v)) None (named_place i.1 (get_or a.slots i.0 None) v e))

pub kept_tags : (a : Arena Tag) (i : Id) (t : Tag) (v : Touch) (c : ℕ) → named a i ≡ Some t → tags_in (with_value a i (kept_as t v c)) ≡ tags_in a
kept_tags a i t v c e = with_value-mapped seen_tag a i (kept_as t v c) ∙ (ap (with_value (tags_in a) i) (kept_seen t v c) ∙ with_value-same (tags_in a) i (seen_tag t) (named-mapped seen_tag a i ∙ ap (option_map seen_tag) e))

is_kept_as : (a : Arena m.Tag) (c : ℕ) (t : Tag) (v : Touch) → v ≡ touch_of a (Some (seen_tag t)) → IsKept a c (Some (kept_as t v c))
is_kept_as a c (Combined leads kept mark) v e = (omega arith, λ s. e)
is_kept_as a c Constant v e = tt
is_kept_as a c (Dirtyable r) v e = tt

pub kept_kept : (a : Arena Tag) (still : Id) (clock c : ℕ) (i : Id) (t : Tag) (v : Touch) → AreKept a still clock c → named a i ≡ Some t → v ≡ touch_of (tags_in a) (Some (seen_tag t))
    → AreKept (with_value a i (kept_as t v c)) still clock c
kept_kept a still clock c i t v k e f = record { sound = subst P (sym same) k.sound; kept = λ j. kept j (id_cases j i) } where
  same : tags_in (with_value a i (kept_as t v c)) ≡ tags_in a
  same = kept_tags a i t v c e

  P : Arena m.Tag → Type 0
  P b = m.IsSound (record { tags = b; still = still; clock = clock; count = c })

  w : Writes a (with_value a i (kept_as t v c)) i (kept_as t v c)
  w = with_value-writes a i (kept_as t v c) (subst IsSome (sym e) refl)

  kept : (j : Id) → (j ≡ i) ⊎ (j ≢ i) → IsKept (tags_in (with_value a i (kept_as t v c))) c (named (with_value a i (kept_as t v c)) j)
  kept j (inl s) = subst (λ b. IsKept b c (named (with_value a i (kept_as t v c)) j)) (sym same) (subst (IsKept (tags_in a) c) (sym (ap (named (with_value a i (kept_as t v c))) s ∙ w.given)) (is_kept_as (tags_in a) c t v f))
  kept j (inr n) = subst (λ b. IsKept b c (named (with_value a i (kept_as t v c)) j)) (sym same) (subst (IsKept (tags_in a) c) (sym (w.others j n)) (k.kept j))

-- a tag that is not dirtyable is no lead
pub not_led : (a : Arena m.Tag) (i : Id) (leads : List Id) → list_any (λ k. not (m.is_dirtyable (named a k))) leads ≡ false → m.is_dirtyable (named a i) ≡ false → list_any (same_id i) leads ≡ false
not_led a i [] h d = refl
not_led a i (x ∷ xs) h d =
    let e = or_parts (not (m.is_dirtyable (named a x))) (list_any (λ k. not (m.is_dirtyable (named a k))) xs) h in
    rw (one (id_cases i x) e.0, not_led a i xs e.1 d) refl where
      one : (i ≡ x) ⊎ (i ≢ x) → not (m.is_dirtyable (named a x)) ≡ false → same_id i x ≡ false
      one (inl s) g = absurd (let n : true ≡ false = sym (ap not (ap (λ k. m.is_dirtyable (named a k)) (sym s) ∙ d)) ∙ g in cc)
      one (inr n) g = same_id-other i x n

-- no combined tag leads to what may be ended
pub unled : (t : m.Tags) (i : Id) → m.IsSound t → (m.is_dirtyable (m.tag_at t i) ≡ true → m.IsUnled t i) → m.IsUnled t i
unled t i sound h k leads e = by (m.is_dirtyable (named t.tags i)) refl where
  by : (b : Bool) → m.is_dirtyable (named t.tags i) ≡ b → list_any (same_id i) leads ≡ false
  by true d = h d k leads e
  by false d = not_led t.tags i leads (combined_right t.tags t.clock t.count (named t.tags k) leads (sound.right k) e) d

pub begins : (a b : Arena Tag) (i : Id) → a.slots ≡ [] → Gives a b i Constant → AreKept b i 0 0
begins a b i e g = record { sound = record { still = named-mapped seen_tag b i ∙ ap (option_map seen_tag) g.given; right = λ j. right j (id_cases j i) }; kept = λ j. kept j (id_cases j i) } where
  none : (j : Id) → j ≢ i → named b j ≡ None
  none j ne = g.others j ne ∙ ap (λ s. stamped j.1 (get_or s j.0 None)) e

  right : (j : Id) → (j ≡ i) ⊎ (j ≢ i) → m.IsRight (tags_in b) 0 0 (named (tags_in b) j)
  right j (inl s) = subst (m.IsRight (tags_in b) 0 0) (sym (ap (named (tags_in b)) s ∙ (named-mapped seen_tag b i ∙ ap (option_map seen_tag) g.given))) tt
  right j (inr n) = subst (m.IsRight (tags_in b) 0 0) (sym (named-mapped seen_tag b j ∙ ap (option_map seen_tag) (none j n))) tt

  kept : (j : Id) → (j ≡ i) ⊎ (j ≢ i) → IsKept (tags_in b) 0 (named b j)
  kept j (inl s) = subst (IsKept (tags_in b) 0) (sym (ap (named b) s ∙ g.given)) tt
  kept j (inr n) = subst (IsKept (tags_in b) 0) (sym (none j n)) tt

pub alone : (a b : Arena Tag) (i : Id) → a.slots ≡ [] → Gives a b i Constant → (j : Id) → j ≢ i → named (tags_in b) j ≡ None
alone a b i e g j ne = named-mapped seen_tag b j ∙ ap (option_map seen_tag) (g.others j ne ∙ ap (λ s. stamped j.1 (get_or s j.0 None)) e)

-- a tag is put in, or want of memory
pub put_kept : {E : Type 0} (r : Result Id E) (old new : Arena Tag) (still : Id) (clock c : ℕ) (t : Tag) → AreKept old still clock c → m.IsRight (tags_in old) clock c (Some (seen_tag t)) → IsKept (tags_in old) c (Some t)
    → IfOk r (λ i. Gives old new i t) → OnErr r (new ≡ old) → AreKept new still clock c
put_kept (Ok i) old new still clock c t k r e g h = given_kept old new still clock c i t k g r e
put_kept (Err x) old new still clock c t k r e g h = subst (λ a. AreKept a still clock c) (sym h) k

pub put_gives : {E : Type 0} (r : Result Id E) (old new : Arena Tag) (t : Tag) (seen : Arena m.Tag) → tags_in old ≡ seen → IfOk r (λ i. Gives old new i t) → IfOk r (λ i. Gives seen (tags_in new) i (seen_tag t))
put_gives (Ok i) old new t seen e g = subst (λ a. Gives a (tags_in new) i (seen_tag t)) e (gives-mapped seen_tag old new i t g)
put_gives (Err x) old new t seen e g = g

pub put_combines : {E : Type 0} (r : Result Id E) (old new : Arena Tag) (t : Tag) (leads parts : List Id) (seen : m.Tags) (after : m.Tags) → seen_tag t ≡ m.combined leads → tags_in old ≡ seen.tags → after.tags ≡ tags_in new → m.Rest seen after
    → m.SameLeads leads (flat_map (m.leads_of (tags_in old)) parts) → IfOk r (λ i. Gives old new i t) → IfOk r (λ i. m.Combines seen after i parts)
put_combines (Ok i) old new t leads parts seen after f e e' rest like g = record {
  leads = leads;
  gives = let P : Arena m.Tag → Arena m.Tag → m.Tag → Type 0 = λ a b x. Gives a b i x in
      subst (λ x. Gives seen.tags after.tags i x) f (subst (λ b. Gives seen.tags b i (seen_tag t)) (sym e') (subst (λ a. Gives a (tags_in new) i (seen_tag t)) e (gives-mapped seen_tag old new i t g)));
  like = subst (λ a. m.SameLeads leads (flat_map (m.leads_of a) parts)) e like;
  rest = rest;
}
put_combines (Err x) old new t leads parts seen after f e e' rest like g = g

some_of : {A : Type 0} (o : Option A) → IsSome o → (x : A) × (o ≡ Some x)
some_of None h = absurd (let n : false ≡ true = h in cc)
some_of (Some x) h = (x, refl)

pub kept_whole : (a new : Arena Tag) (still : Id) (clock c : ℕ) (i : Id) (v : Touch) → AreKept a still clock c → IsSome (named a i) → v ≡ touch_of (tags_in a) (named (tags_in a) i)
    → ((tag : Tag) → named a i ≡ Some tag → new ≡ with_value a i (kept_as tag v c)) → AreKept new still clock c × (tags_in new ≡ tags_in a)
kept_whole a new still clock c i v k live e h = by (some_of (named a i) live) where
  by : (x : Tag) × (named a i ≡ Some x) → AreKept new still clock c × (tags_in new ≡ tags_in a)
  by (x, f) = (
    subst (λ b. AreKept b still clock c) (sym (h x f)) (kept_kept a still clock c i x v k f (e ∙ ap (touch_of (tags_in a)) (named-mapped seen_tag a i ∙ ap (option_map seen_tag) f))),
    ap tags_in (h x f) ∙ kept_tags a i x v c f,
  )

-- References that wait until what they read may be used.
use Rattle.std.proofs.Common.{◌≡◌, ℕ, zero, suc, Bool, true, false, List, [], ◌∷◌, ◌++◌, take, Some, None, unwrap_or, refl, sym, subst, ◌∙◌, ap}
use Rattle.std.specs.Prelude.{◌||◌, slice_get}
use Rattle.std.specs.List.{list_any}
use Rattle.gl_value.specs.Value.{undefined}
use Rattle.gl_arena.specs.Id.{Id, same_id}
use Rattle.gl_arena.proofs.Ids.{same_id-refl}
use Rattle.gl_tags.specs.Tags as t
use Rattle.gl_refs.specs.Forms.{V, meaning, form_at, reads, Each, IsReadFor, through}
use Rattle.gl_refs.specs.State.{Rows, forms, held_value, reads_of, IsKept, IsSound, Settles, Waiting, IsReady, AllReady}
use Rattle.gl_refs.proofs.Meanings.{each_map, reads_front}
use Rattle.gl_refs.proofs.Computing.{value_now}

-- the value of now
abbrev pub value_at : Rows → Id → V
value_at rows q = (meaning (forms rows) q).value

pub held_now : (tags : t.Tags) (rows : Rows) (q : Id) → IsSound tags rows → IsKept tags rows q → held_value rows q ≡ value_at rows q
held_now tags rows q sound h = ap (λ o. unwrap_or o undefined) (value_now tags rows q sound h)

pub each_next : (P : Id → Type 0) (xs : List Id) (k : ℕ) (q : Id) → slice_get xs k ≡ Some q → P q → Each P (take k xs) → Each P (take (suc k) xs)
each_next P [] k q e h r = absurd (let n : None ≡ Some q = e in cc)
each_next P (x ∷ xs) zero q e h r = let s : q ≡ x = cc in (subst P s h, tt)
each_next P (x ∷ xs) (suc k) q e h r = (r.0, each_next P xs k q e h r.1)

pub each_all : (P : Id → Type 0) (xs : List Id) (k : ℕ) → slice_get xs k ≡ None → Each P (take k xs) → Each P xs
each_all P [] k e r = tt
each_all P (x ∷ xs) zero e r = absurd (let n : Some x ≡ None = e in cc)
each_all P (x ∷ xs) (suc k) e r = (r.0, each_all P xs k e r.1)

stands_by : (q x : Id) (b : Bool) → q ≡ x → (same_id q x || b) ≡ true
stands_by q x b e = ap (λ c. c || b) (sym (ap (same_id q) e) ∙ same_id-refl q)

or_later : (a b : Bool) → b ≡ true → (a || b) ≡ true
or_later true b e = refl
or_later false b e = e

in_take : (xs : List Id) (k : ℕ) (q : Id) → slice_get xs k ≡ Some q → list_any (same_id q) (take (suc k) xs) ≡ true
in_take [] k q e = absurd (let n : None ≡ Some q = e in cc)
in_take (x ∷ xs) zero q e = let s : q ≡ x = cc in stands_by q x false s
in_take (x ∷ xs) (suc k) q e = or_later (same_id q x) (list_any (same_id q) (take (suc k) xs)) (in_take xs k q e)

either_way : (a b c : Bool) → (b ≡ true → c ≡ true) → (a || b) ≡ true → (a || c) ≡ true
either_way true b c h e = refl
either_way false b c h e = h e

in_whole : (p : Id → Bool) (k : ℕ) (xs : List Id) → list_any p (take k xs) ≡ true → list_any p xs ≡ true
in_whole p zero xs e = absurd (let n : false ≡ true = e in cc)
in_whole p (suc k) [] e = e
in_whole p (suc k) (x ∷ xs) e = either_way (p x) (list_any p (take k xs)) (list_any p xs) (in_whole p k xs) e

module _ (tags : t.Tags) (rows : Rows) (sound : IsSound tags rows) where
  -- the reference at a place is read for it, where those before it may be used
  pub part_read : (i q : Id) (k : ℕ) → Each (IsKept tags rows) (take k (reads_of rows i)) → slice_get (reads_of rows i) k ≡ Some q
      → list_any (same_id q) (reads (value_at rows) (form_at (forms rows) i)) ≡ true
  part_read i q k ready e =
      let same = reads_front (held_value rows) (value_at rows) (form_at (forms rows) i) k (each_map (IsKept tags rows) (λ x. held_value rows x ≡ value_at rows x) (take k (reads_of rows i)) (λ x h. held_now tags rows x sound h) ready) in
      in_whole (same_id q) (suc k) (reads (value_at rows) (form_at (forms rows) i)) (sym (ap (list_any (same_id q)) same) ∙ in_take (reads_of rows i) k q e)

  -- what waits puts off until that part may be used
  pub waits_part : (root i q : Id) (n k : ℕ) → IsReady tags rows root (record { id = i; next = n }) → Each (IsKept tags rows) (take k (reads_of rows i)) → slice_get (reads_of rows i) k ≡ Some q
      → IsReady tags rows root (record { id = i; next = k }) × IsReady tags rows root (record { id = q; next = 0 })
  waits_part root i q n k r ready e = ((r.0, ready), (through i q r.0 (part_read i q k ready e), tt))

module _ (Own : Id → Type 0) (tags tags' : t.Tags) (rows rows' : Rows) (sound : IsSound tags rows) (s : Settles Own tags tags' rows rows') where
  form_same : (i : Id) → form_at (forms rows') i ≡ form_at (forms rows) i
  form_same i = ap (λ l. form_at l i) s.forms

  held_same : (q : Id) → IsKept tags rows q → held_value rows q ≡ held_value rows' q
  held_same q h = held_now tags rows q sound h ∙ (ap (λ l. (meaning l q).value) (sym s.forms) ∙ sym (held_now tags' rows' q s.sound (s.keeps q h)))

  front_same : (i : Id) (k : ℕ) → Each (IsKept tags rows) (take k (reads_of rows i)) → take k (reads_of rows i) ≡ take k (reads_of rows' i)
  front_same i zero e = refl
  front_same i (suc k) e =
      let held = each_map (IsKept tags rows) (λ q. held_value rows q ≡ held_value rows' q) (take (suc k) (reads_of rows i)) held_same e in
      reads_front (held_value rows) (held_value rows') (form_at (forms rows) i) k (less k (reads_of rows i) held)
      ∙ ap (λ g. take (suc k) (reads (held_value rows') g)) (sym (form_same i)) where
        less : (k : ℕ) (xs : List Id) → Each (λ q. held_value rows q ≡ held_value rows' q) (take (suc k) xs) → Each (λ q. held_value rows q ≡ held_value rows' q) (take k xs)
        less zero xs e = tt
        less (suc k) [] e = tt
        less (suc k) (x ∷ xs) e = (e.0, less k xs e.1)

  ready_stays : (root : Id) (w : Waiting) → IsReady tags rows root w → IsReady tags' rows' root w
  ready_stays root w r = (
    subst (λ l. IsReadFor l root w.id) (sym s.forms) r.0,
    subst (Each (IsKept tags' rows')) (front_same w.id w.next r.1) (each_map (IsKept tags rows) (IsKept tags' rows') (take w.next (reads_of rows w.id)) s.keeps r.1),
  )

  pub all_ready_stay : (root : Id) (ws : List Waiting) → AllReady tags rows root ws → AllReady tags' rows' root ws
  all_ready_stay root [] r = tt
  all_ready_stay root (w ∷ ws) r = (ready_stays root w r.0, all_ready_stay root ws r.1)

pub all_ready_more : (tags : t.Tags) (rows : Rows) (root : Id) (ws : List Waiting) (w : Waiting) → AllReady tags rows root ws → IsReady tags rows root w → AllReady tags rows root (ws ++ w ∷ [])
all_ready_more tags rows root [] w r h = (h, tt)
all_ready_more tags rows root (x ∷ ws) w r h = (r.0, all_ready_more tags rows root ws w r.1 h)

pub all_ready_less : (tags : t.Tags) (rows : Rows) (root : Id) (ws : List Waiting) (w : Waiting) → AllReady tags rows root (ws ++ w ∷ []) → AllReady tags rows root ws × IsReady tags rows root w
all_ready_less tags rows root [] w r = (tt, r.0)
all_ready_less tags rows root (x ∷ ws) w r = let n = all_ready_less tags rows root ws w r.1 in ((r.0, n.0), n.1)

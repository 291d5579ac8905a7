-- Values where one tag changes.
use Rattle.std.proofs.Common.{◌≡◌, ◌≢◌, ◌+◌, ◌≤◌, Bool, true, false, not, List, [], ◌∷◌, map, flat_map, Option, Some, None, IsSome, refl, sym, ap, ◌∙◌, arith, ◌⊎◌, inl, inr}
use Rattle.std.specs.Prelude.{◌||◌}
use Rattle.std.specs.List.{list_any}
use Rattle.gl_arena.specs.Id.{Id, same_id}
use Rattle.gl_arena.specs.Arena.{Arena, named, with_value}
use Rattle.gl_arena.proofs.Ids.{id_cases, same_id-refl, same_id-other}
use Rattle.gl_arena.proofs.Values.{Writes, with_value-writes}
use Rattle.gl_tags.specs.Tags as m
use Rattle.gl_tags.specs.Laws.{DirtyReaches, FreeKeeps, CombineIsGreatest}
use Rattle.gl_tags.proofs.Keeping.{reads_stay, unled}
use Rattle.gl_tags.proofs.Leads.{leads_fixed}
use Rattle.gl_tags.proofs.Greatest.{lead_below, within_bound, greatest_same, greatest_flat}

there : (o : Option m.Tag) → m.is_dirtyable o ≡ true → IsSome o
there None e = absurd (let z : false ≡ true = e in cc)
there (Some x) e = refl

module _ (t : m.Tags) (i : Id) (sound : m.IsSound t) (live : m.is_dirtyable (m.tag_at t i) ≡ true) where
  a : Arena m.Tag
  a = t.tags

  w : Writes t.tags (with_value t.tags i (m.dirtyable t.clock (t.count + 1))) i (m.dirtyable t.clock (t.count + 1))
  w = with_value-writes t.tags i (m.dirtyable t.clock (t.count + 1)) (there (m.tag_at t i) live)

  not_i : (k : Id) → m.is_dirtyable (named t.tags k) ≡ false → k ≢ i
  not_i k d e = absurd (let z : true ≡ false = sym (ap (λ x. m.is_dirtyable (named t.tags x)) e ∙ live) ∙ d in cc)

  same : (k : Id) → same_id i k ≡ false → named (m.dirtied t i).tags k ≡ named t.tags k
  same k h = w.others k (λ e. absurd (let z : true ≡ false = sym (same_id-refl i) ∙ (ap (same_id i) (sym e) ∙ h) in cc))

  bounded : (k : Id) → m.revision (named (m.dirtied t i).tags k) ≤ t.clock
  bounded k = by (id_cases k i) where
    old : (o : Option m.Tag) → m.IsRight t.tags t.clock t.count o → m.revision o ≤ t.clock
    old None r = omega arith
    old (Some m.constant) r = omega arith
    old (Some (m.dirtyable x y)) r = r.0
    old (Some (m.combined ls)) r = omega arith

    by : (k ≡ i) ⊎ (k ≢ i) → m.revision (named (m.dirtied t i).tags k) ≤ t.clock
    by (inl e) = let h = ap m.revision (ap (named (m.dirtied t i).tags) e ∙ w.given) in omega (arith, h)
    by (inr n) = let h = ap m.revision (w.others k n) in let g = old (named t.tags k) (sound.right k) in omega (arith, h, g)

  Reaches : Id → Type 0
  Reaches k = (list_any (same_id i) (m.leads_of t.tags k) ≡ true → m.value_of (m.dirtied t i) k ≡ t.clock) × (list_any (same_id i) (m.leads_of t.tags k) ≡ false → m.value_of (m.dirtied t i) k ≡ m.value_of t k)

  value_at : (o : Option m.Tag) (k : Id) → named (m.dirtied t i).tags k ≡ o → m.value_of (m.dirtied t i) k ≡ m.value_by m.revision (m.dirtied t i).tags o
  value_at o k e = ap (m.value_by m.revision (m.dirtied t i).tags) e

  old_at : (o : Option m.Tag) (k : Id) → named t.tags k ≡ o → m.value_of t k ≡ m.value_by m.revision t.tags o
  old_at o k e = ap (m.value_by m.revision t.tags) e

  leads_at : (o : Option m.Tag) (k : Id) → named t.tags k ≡ o → (b : Bool) → list_any (same_id i) (m.leads_of t.tags k) ≡ b → list_any (same_id i) (m.leads_by k o) ≡ b
  leads_at o k e b h = sym (ap (λ x. list_any (same_id i) (m.leads_by k x)) e) ∙ h

  combined_leads : (leads : List Id) → list_any (same_id i) leads ≡ true → m.greatest_of m.revision (m.dirtied t i).tags leads ≡ t.clock
  combined_leads leads h =
      let low = lead_below (λ k. m.revision (named (m.dirtied t i).tags k)) i leads h 0 in
      let high = within_bound (λ k. m.revision (named (m.dirtied t i).tags k)) t.clock leads 0 (omega arith) bounded in
      let own = ap m.revision w.given in
      omega (arith, low, high, own)

  pub reaches : (k : Id) → (list_any (same_id i) (m.leads_of t.tags k) ≡ true → m.value_of (m.dirtied t i) k ≡ t.clock) × (list_any (same_id i) (m.leads_of t.tags k) ≡ false → m.value_of (m.dirtied t i) k ≡ m.value_of t k)
  reaches k = by (named t.tags k) refl where
    none_led : (o : Option m.Tag) → named t.tags k ≡ o → m.is_dirtyable o ≡ false → m.leads_by k o ≡ [] → (list_any (same_id i) (m.leads_of t.tags k) ≡ true → m.value_of (m.dirtied t i) k ≡ t.clock) × (m.value_by m.revision (m.dirtied t i).tags o ≡ m.value_by m.revision t.tags o → list_any (same_id i) (m.leads_of t.tags k) ≡ false → m.value_of (m.dirtied t i) k ≡ m.value_of t k)
    none_led o e d l = (
      λ h. absurd (let z : false ≡ true = sym (ap (list_any (same_id i)) l) ∙ leads_at o k e true h in cc),
      λ v h. value_at o k (w.others k (not_i k (ap m.is_dirtyable e ∙ d)) ∙ e) ∙ (v ∙ sym (old_at o k e)),
    )

    by : (o : Option m.Tag) → named t.tags k ≡ o → (list_any (same_id i) (m.leads_of t.tags k) ≡ true → m.value_of (m.dirtied t i) k ≡ t.clock) × (list_any (same_id i) (m.leads_of t.tags k) ≡ false → m.value_of (m.dirtied t i) k ≡ m.value_of t k)
    by None e = let n = none_led None e refl refl in (n.0, n.1 refl)
    by (Some m.constant) e = let n = none_led (Some m.constant) e refl refl in (n.0, n.1 refl)
    by (Some (m.dirtyable r o)) e = own (id_cases k i) where
      own : (k ≡ i) ⊎ (k ≢ i) → (list_any (same_id i) (m.leads_of t.tags k) ≡ true → m.value_of (m.dirtied t i) k ≡ t.clock) × (list_any (same_id i) (m.leads_of t.tags k) ≡ false → m.value_of (m.dirtied t i) k ≡ m.value_of t k)
      own (inl q) = (
        λ h. value_at (Some (m.dirtyable t.clock (t.count + 1))) k (ap (named (m.dirtied t i).tags) q ∙ w.given),
        λ h. absurd (let z : true ≡ false = sym (ap (λ b. b || false) (ap (same_id i) q ∙ same_id-refl i)) ∙ leads_at (Some (m.dirtyable r o)) k e false h in cc),
      )
      own (inr n) = (
        λ h. absurd (let z : false ≡ true = sym (ap (λ b. b || false) (same_id-other i k (λ q. n (sym q)))) ∙ leads_at (Some (m.dirtyable r o)) k e true h in cc),
        λ h. value_at (Some (m.dirtyable r o)) k (w.others k n ∙ e) ∙ sym (old_at (Some (m.dirtyable r o)) k e),
      )
    by (Some (m.combined leads)) e = let now = value_at (Some (m.combined leads)) k (w.others k (not_i k (ap m.is_dirtyable e)) ∙ e) in (
      λ h. now ∙ combined_leads leads (leads_at (Some (m.combined leads)) k e true h),
      λ h. now ∙ (ap (m.greatest_from 0) (reads_stay t.tags (m.dirtied t i).tags (same_id i) same m.revision leads (leads_at (Some (m.combined leads)) k e false h)) ∙ sym (old_at (Some (m.combined leads)) k e)),
    )

pub dirty_reaches : DirtyReaches
dirty_reaches t i sound live k = reaches t i sound live k

pub free_keeps : FreeKeeps
free_keeps old new i sound ends free k ne = (ap (m.leads_by k) (ends.others k ne), ap (m.value_by m.revision new.tags) (ends.others k ne) ∙ by (named old.tags k) refl) where
  same : (j : Id) → same_id i j ≡ false → named new.tags j ≡ named old.tags j
  same j h = ends.others j (λ e. absurd (let z : true ≡ false = sym (same_id-refl i) ∙ (ap (same_id i) (sym e) ∙ h) in cc))

  by : (o : Option m.Tag) → named old.tags k ≡ o → m.value_by m.revision new.tags (named old.tags k) ≡ m.value_of old k
  by None e = ap (m.value_by m.revision new.tags) e ∙ sym (ap (m.value_by m.revision old.tags) e)
  by (Some m.constant) e = ap (m.value_by m.revision new.tags) e ∙ sym (ap (m.value_by m.revision old.tags) e)
  by (Some (m.dirtyable r o)) e = ap (m.value_by m.revision new.tags) e ∙ sym (ap (m.value_by m.revision old.tags) e)
  by (Some (m.combined leads)) e =
      ap (m.value_by m.revision new.tags) e
      ∙ (ap (m.greatest_from 0) (reads_stay old.tags new.tags (same_id i) same m.revision leads (unled old i sound free k leads e))
      ∙ sym (ap (m.value_by m.revision old.tags) e))

pub combine_is_greatest : CombineIsGreatest
combine_is_greatest old new id parts sound c =
    ap (m.value_by m.revision new.tags) c.gives.given
    ∙ (ap (m.greatest_from 0) (reads_stay old.tags new.tags (λ k. not (m.is_dirtyable (named old.tags k))) stay m.revision c.leads fixed)
    ∙ (greatest_same (λ k. m.revision (named old.tags k)) c.leads (flat_map (m.leads_of old.tags) parts) c.like
    ∙ (greatest_flat (λ k. m.revision (named old.tags k)) (m.leads_of old.tags) 0 parts
    ∙ ap (m.greatest_from 0) (each parts)))) where
      stay : (k : Id) → not (m.is_dirtyable (named old.tags k)) ≡ false → named new.tags k ≡ named old.tags k
      stay k h = c.gives.others k (λ e. absurd (let z : true ≡ false = sym (ap (λ o. not (m.is_dirtyable o)) (ap (named old.tags) e ∙ c.gives.vacant)) ∙ h in cc))

      fixed : list_any (λ k. not (m.is_dirtyable (named old.tags k))) c.leads ≡ false
      fixed = c.like (λ k. not (m.is_dirtyable (named old.tags k))) ∙ leads_fixed old.tags old.clock old.count parts sound.right

      one : (x : Id) (o : Option m.Tag) → named old.tags x ≡ o → m.greatest_from 0 (map (λ k. m.revision (named old.tags k)) (m.leads_by x o)) ≡ m.value_by m.revision old.tags o
      one x None e = refl
      one x (Some m.constant) e = refl
      one x (Some (m.dirtyable r o)) e = let h = ap m.revision e in omega (arith, h)
      one x (Some (m.combined leads)) e = refl

      each : (xs : List Id) → map (λ x. m.greatest_from 0 (map (λ k. m.revision (named old.tags k)) (m.leads_of old.tags x))) xs ≡ map (m.value_of old) xs
      each [] = refl
      each (x ∷ xs) = rw (one x (named old.tags x) refl, each xs) refl

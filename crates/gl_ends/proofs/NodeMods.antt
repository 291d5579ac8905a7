-- The modifiers of a node, where they are known by a list.
use Rattle.std.proofs.Common.{◌≡◌, ◌≢◌, ℕ, ◌+◌, ◌<◌, Bool, true, false, Option, Some, None, is_some, List, [], ◌∷◌, map, refl, sym, ap, subst, ◌∙◌, inl, inr, arith}
use Rattle.std.specs.Prelude.{◌&&◌, nat_eq, if◌then◌else◌}
use Rattle.gl_arena.specs.Id.{Id, same_id}
use Rattle.gl_arena.specs.Arena.{named, by_stamp}
use Rattle.gl_arena.proofs.Ids.{same_id-refl, same_id-true, id_cases}
use Rattle.gl_arena.proofs.Stamps.{by_stamp-id}
use Rattle.gl_mods.specs.Mods as m
use Rattle.gl_mods.proofs.Ids.{hit-is, hit-other}
use Rattle.gl_plain.specs.Ids.{a_modifier, Id as Name, kind_eq, modifier_id, hit, occurs}
use Rattle.gl_vm.specs.Steps.{is_on, on_count}
use Rattle.gl_vm.proofs.States.{num_yes, num_no}
use Rattle.gl_code.specs.declared.code.ModSpot.{ModSpot}

-- how often a number is the stamp of one of the ids
abbrev stamped_times : ℕ → List Id → ℕ
stamped_times s [] = 0
stamped_times s (i ∷ is) = (if nat_eq s i.1 then 1 else 0) + stamped_times s is

hits : (q : Name) (i : Id) → hit q (modifier_id i.1) ≡ (if kind_eq q.kind a_modifier && nat_eq q.num i.1 then 1 else 0)
unfolding hit
hits q i = refl

no_kind : (q : Name) → kind_eq q.kind a_modifier ≡ false → (ids : List Id) → occurs q (map (λ i. modifier_id i.1) ids) ≡ 0
no_kind q e [] = refl
no_kind q e (i ∷ is) = let a = hits q i ∙ ap {B = ℕ} (λ b. if b && nat_eq q.num i.1 then 1 else 0) e in let r = no_kind q e is in omega (arith, a, r)

of_kind : (q : Name) → kind_eq q.kind a_modifier ≡ true → (ids : List Id) → occurs q (map (λ i. modifier_id i.1) ids) ≡ stamped_times q.num ids
of_kind q e [] = refl
of_kind q e (i ∷ is) = let a = hits q i ∙ ap {B = ℕ} (λ b. if b && nat_eq q.num i.1 then 1 else 0) e in let r = of_kind q e is in omega (arith, a, r)

none_stamped : (s : ℕ) (ids : List Id) → ((i : Id) → 0 < m.times i ids → s ≢ i.1) → stamped_times s ids ≡ 0
none_stamped s [] h = refl
none_stamped s (i ∷ is) h =
    let a = ap {B = ℕ} (λ b. if b then 1 else 0) (num_no i.1 s (h i (let e = hit-is i i refl in omega (arith, e)))) in
    let r = none_stamped s is (λ k lt. h k (omega (arith, lt))) in omega (arith, a, r)

one_stamped : (j : Id) (ids : List Id) → ((i : Id) → 0 < m.times i ids → j.1 ≡ i.1 → j ≡ i) → stamped_times j.1 ids ≡ m.times j ids
one_stamped j [] h = refl
one_stamped j (i ∷ is) h =
    let r = one_stamped j is (λ k lt. h k (omega (arith, lt))) in elim (id_cases j i) [
      | inl e ↦ let a = ap {B = ℕ} (λ b. if b then 1 else 0) (num_yes i.1 j.1 (ap (λ (k : Id). k.1) e)) in let o = hit-is j i e in omega (arith, a, o, r)
      | inr ne ↦
          let a = ap {B = ℕ} (λ b. if b then 1 else 0) (num_no i.1 j.1 (λ q. ne (h i (let e = hit-is i i refl in omega (arith, e)) q))) in let o = hit-other j i ne in omega (arith, a, o, r)
    ]

module _ (mods : m.Mods) (node : Id) (ids : List Id) (sound : m.IsSound mods) (is : m.ids_on mods node ≡ ids) where
  counted : (i : Id) → m.times i ids ≡ m.count_at node (named mods.table i)
  counted i = ap (m.times i) (sym is) ∙ sound.on node i

  -- one of the list is a modifier of the node
  there : (i : Id) → 0 < m.times i ids → (x : m.Installed) × (named mods.table i ≡ Some x) × (x.node ≡ node)
  there i lt = by (named mods.table i) refl where
    by : (o : Option m.Installed) → named mods.table i ≡ o → (x : m.Installed) × (named mods.table i ≡ Some x) × (x.node ≡ node)
    by None e = let c = counted i ∙ ap (m.count_at node) e in absurd (omega (arith, c, lt))
    by (Some x) e = elim (id_cases x.node node) [
      | inl q ↦ (x, e, q)
      | inr ne ↦ let c = counted i ∙ ap (m.count_at node) e in let o = hit-other x.node node ne in absurd (omega (arith, c, o, lt))
    ]

  on_stamp : (i : Id) → 0 < m.times i ids → is_on node (by_stamp mods.table i.1) ≡ true
  on_stamp i lt =
      let t = there i lt in let own = sound.own node i (subst (λ l. 0 < m.times i l) (sym is) lt) in
      ap (is_on node) (sym own.same ∙ t.1) ∙ (ap (λ k. same_id k node) t.2 ∙ same_id-refl node)

  by_number : (s : ℕ) → (if is_on node (by_stamp mods.table s) then 1 else 0) ≡ stamped_times s ids
  by_number s = by (by_stamp mods.table s) refl where
    off : is_on node (by_stamp mods.table s) ≡ false → (if is_on node (by_stamp mods.table s) then 1 else 0) ≡ stamped_times s ids
    off e = ap (λ b. if b then 1 else 0) e ∙ sym (none_stamped s ids (λ i lt q. let no : true ≡ false = sym (on_stamp i lt) ∙ (ap (λ k. is_on node (by_stamp mods.table k)) (sym q) ∙ e) in absurd (cc)))

    on : (x : m.Installed) → by_stamp mods.table s ≡ Some x → x.node ≡ node → (if is_on node (by_stamp mods.table s) then 1 else 0) ≡ stamped_times s ids
    on x e at =
        let p = by_stamp-id mods.table s x e in
        let one : m.times p.0 ids ≡ 1 = counted p.0 ∙ (ap (m.count_at node) p.2 ∙ hit-is x.node node at) in
        let all : stamped_times p.0.1 ids ≡ m.times p.0 ids = one_stamped p.0 ids (λ i lt q. sound.stamps.apart p.0 i (ap is_some p.2) (ap is_some (there i lt).1) q) in
        ap (λ o. if is_on node o then 1 else 0) e ∙ (ap (λ k. if same_id k node then 1 else 0) at ∙ (ap (λ b. if b then 1 else 0) (same_id-refl node) ∙ (sym one ∙ (sym all ∙ ap (λ k. stamped_times k ids) p.1))))

    by : (o : Option m.Installed) → by_stamp mods.table s ≡ o → (if is_on node (by_stamp mods.table s) then 1 else 0) ≡ stamped_times s ids
    by None e = off (ap (is_on node) e)
    by (Some x) e = elim (id_cases x.node node) [
      | inl q ↦ on x e q
      | inr ne ↦ off (ap (is_on node) e ∙ apart x.node ne)
    ]
      where
        apart : (k : Id) → k ≢ node → same_id k node ≡ false
        apart k ne = by_test (same_id k node) refl where
          by_test : (b : Bool) → same_id k node ≡ b → same_id k node ≡ false
          by_test true e = absurd (ne (same_id-true k node e))
          by_test false e = e

  -- the ids of the node's modifiers are counted
  pub on_counts : (q : Name) → on_count mods node q ≡ occurs q (map (λ i. modifier_id i.1) ids)
  on_counts q = by (kind_eq q.kind a_modifier) refl where
    by : (b : Bool) → kind_eq q.kind a_modifier ≡ b → on_count mods node q ≡ occurs q (map (λ i. modifier_id i.1) ids)
    by true e = ap (λ b. if b && is_on node (by_stamp mods.table q.num) then 1 else 0) e ∙ (by_number q.num ∙ sym (of_kind q e ids))
    by false e = ap (λ b. if b && is_on node (by_stamp mods.table q.num) then 1 else 0) e ∙ sym (no_kind q e ids)

  -- as they stand in what was rendered
  pub spots_on : (spots : List ModSpot) → ids ≡ map (λ x. x.id) spots → (q : Name) → on_count mods node q ≡ occurs q (map (λ x. modifier_id x.id.1) spots)
  spots_on spots e q = on_counts q ∙ (ap (λ l. occurs q (map (λ i. modifier_id i.1) l)) e ∙ same spots) where
    same : (xs : List ModSpot) → occurs q (map (λ i. modifier_id i.1) (map (λ x. x.id) xs)) ≡ occurs q (map (λ x. modifier_id x.id.1) xs)
    same [] = refl
    same (x ∷ xs) = ap (λ k. hit q (modifier_id x.id.1) + k) (same xs)

-- JSON fits exactly where no number of it is bad and it isn't nested too deep.
use Rattle.std.proofs.Common.{◌≡◌, ◌≤◌, ◌<◌, ◌-◌, ℕ, Bool, true, false, refl, arith, Option, Some, None, ◌⊎◌, inl, inr, is_none, ◌&&◌, Ok, Err, option_map, unwrap_or, ◌↔◌, nat_lt, if◌then◌else◌}
use Rattle.std.specs.Option.{option_or}
use Rattle.std.proofs.lemmas.Bool.{le-ltb, lt-ltb, ltb-true, ltb-false}
use Rattle.gl_value.specs.Faults.{fault_of, fault_told}
use Rattle.gl_value.specs.Json.{Bad, not_whole, too_large, too_deep, number_fault, first_bad, first_bad_item, first_bad_member, fits, items_fit, members_fit, value_of, reading, from_json}
use Rattle.gl_value.specs.Value.{Value}
use Rattle.gl_value.specs.declared.json.JsonFault.{JsonFault}
use Rattle.gl_value.specs.declared.json.JsonFault.TheVariants as code
use Rattle.serde_json.specs.Data as json

no_fault : (o : Option Bad) → is_none o ≡ true → o ≡ None
no_fault None h = refl
no_fault (Some b) h = cc

some_fault : (o : Option Bad) → is_none o ≡ false → o ≡ None → ⊥
some_fault None h k = cc
some_fault (Some b) h k = cc

left : (a b : Bool) → (a && b) ≡ true → a ≡ true
left true b h = refl
left false b h = cc

right : (a b : Bool) → (a && b) ≡ true → b ≡ true
right true b h = h
right false b h = cc

mutual
  pub fit : (m : ℕ) (d : json.Data) → fits m d ≡ true → (first_bad d ≡ None) × (json.depth d ≤ m)
  fit m json.null h = (refl, omega arith)
  fit m (json.boolean b) h = (refl, omega arith)
  fit m (json.number n) h = (no_fault (number_fault n) h, omega arith)
  fit m (json.string s) h = (refl, omega arith)
  fit m (json.array ds) h =
      let room = ltb-true 0 m (left _ _ h) in
      let r : (first_bad_item ds ≡ None) × (json.items_depth ds ≤ m - 1) = items_sound (m - 1) ds (right (nat_lt 0 m) (items_fit (m - 1) ds) h) in
      (r.0, omega (arith, room, r.1))
  fit m (json.object ms) h =
      let room = ltb-true 0 m (left _ _ h) in
      let r : (first_bad_member ms ≡ None) × (json.members_depth ms ≤ m - 1) = members_sound (m - 1) ms (right (nat_lt 0 m) (members_fit (m - 1) ms) h) in
      (r.0, omega (arith, room, r.1))

  items_sound : (m : ℕ) (ds : json.Items) → items_fit m ds ≡ true → (first_bad_item ds ≡ None) × (json.items_depth ds ≤ m)
  items_sound m json.no_items h = (refl, omega arith)
  items_sound m (json.item d ds) h =
      let one = fit m d (left _ _ h) in
      let rest : (first_bad_item ds ≡ None) × (json.items_depth ds ≤ m) = items_sound m ds (right (fits m d) (items_fit m ds) h) in
      (rw (one.0, rest.0) refl, omega (arith, one.1, rest.1))

  members_sound : (m : ℕ) (ms : json.Members) → members_fit m ms ≡ true → (first_bad_member ms ≡ None) × (json.members_depth ms ≤ m)
  members_sound m json.no_members h = (refl, omega arith)
  members_sound m (json.member k d ms) h =
      let one = fit m d (left _ _ h) in
      let rest : (first_bad_member ms ≡ None) × (json.members_depth ms ≤ m) = members_sound m ms (right (fits m d) (members_fit m ms) h) in
      (rw (one.0, rest.0) refl, omega (arith, one.1, rest.1))

either : (a b : Bool) → (a && b) ≡ false → (a ≡ false) ⊎ (b ≡ false)
either false b h = inl refl
either true b h = inr h

first_none : (a b : Option Bad) → option_or a b ≡ None → a ≡ None
first_none None b e = refl
first_none (Some x) b e = cc

rest_none : (a b : Option Bad) → option_or a b ≡ None → b ≡ None
rest_none None b e = e
rest_none (Some x) b e = cc

mutual
  pub unfit : (m : ℕ) (d : json.Data) → fits m d ≡ false → first_bad d ≡ None → m < json.depth d
  unfit m json.null h e = cc
  unfit m (json.boolean b) h e = cc
  unfit m (json.number n) h e = absurd (some_fault (number_fault n) h e)
  unfit m (json.string s) h e = cc
  unfit m (json.array ds) h e = elim (either _ _ h) [
    | inl none ↦ let full = ltb-false 0 m none in omega (arith, full)
    | inr rest ↦ let r : m - 1 < json.items_depth ds = items_unfit (m - 1) ds rest e in omega (arith, r)
  ]
  unfit m (json.object ms) h e = elim (either _ _ h) [
    | inl none ↦ let full = ltb-false 0 m none in omega (arith, full)
    | inr rest ↦ let r : m - 1 < json.members_depth ms = members_unfit (m - 1) ms rest e in omega (arith, r)
  ]

  items_unfit : (m : ℕ) (ds : json.Items) → items_fit m ds ≡ false → first_bad_item ds ≡ None → m < json.items_depth ds
  items_unfit m json.no_items h e = cc
  items_unfit m (json.item d ds) h e = elim (either _ _ h) [
    | inl one ↦ let r = unfit m d one (first_none _ _ e) in omega (arith, r)
    | inr rest ↦ let r : m < json.items_depth ds = items_unfit m ds rest (rest_none (first_bad d) (first_bad_item ds) e) in omega (arith, r)
  ]

  members_unfit : (m : ℕ) (ms : json.Members) → members_fit m ms ≡ false → first_bad_member ms ≡ None → m < json.members_depth ms
  members_unfit m json.no_members h e = cc
  members_unfit m (json.member k d ms) h e = elim (either _ _ h) [
    | inl one ↦ let r = unfit m d one (first_none _ _ e) in omega (arith, r)
    | inr rest ↦ let r : m < json.members_depth ms = members_unfit m ms rest (rest_none (first_bad d) (first_bad_member ms) e) in omega (arith, r)
  ]

-- why JSON is no value, where it doesn't fit
abbrev pub unfit_fault : json.Data → JsonFault
unfit_fault d = unwrap_or (option_map fault_of (first_bad d)) code.TooDeep

pub told_fit : {O : Type 0} (d : json.Data) → fits 100 d ≡ true → from_json {O = O} d ≡ Ok (value_of d)
told_fit d h =
    let sound = fit 100 d h in
    let shallow = le-ltb 100 (json.depth d) sound.1 in
    rw (sound.0, shallow) refl

pub told_unfit : (O : Type 0) (d : json.Data) → fits 100 d ≡ false → fault_told (from_json {O = O} d) ≡ Some (unfit_fault d)
told_unfit O d h = by_fault (first_bad d) refl where
  by_fault : (o : Option Bad) → first_bad d ≡ o → fault_told (reading {O = O} o (json.depth d) (value_of d)) ≡ Some (unwrap_or (option_map fault_of o) code.TooDeep)
  by_fault (Some bad) e = refl
  by_fault None e = let deep = lt-ltb 100 (json.depth d) (unfit 100 d h e) in rw deep refl

-- What is told where no value was made: the fault of the JSON, or else that memory is wanting.
abbrev ToldFor : JsonFault → Option Bad → ℕ → Type 0
ToldFor r o n =
    ((r ≡ code.NotWhole) ↔ (o ≡ Some not_whole)) × ((r ≡ code.TooLarge) ↔ (o ≡ Some too_large))
    × ((r ≡ code.TooDeep) ↔ ((o ≡ None) × (100 < n)))

told : (O : Type 0) (o : Option Bad) (n : ℕ) (v : Value O) → ToldFor (unwrap_or (fault_told (reading {O = O} o n v)) code.Memory) o n
told O (Some not_whole) n v = ((λ e. refl, λ e. refl), (λ r. cc, λ r. cc), (λ r. cc, λ r. cc))
told O (Some too_large) n v = ((λ r. cc, λ r. cc), (λ e. refl, λ e. refl), (λ r. cc, λ r. cc))
told O None n v = by_depth (nat_lt 100 n) refl where
  by_depth : (deep : Bool) → nat_lt 100 n ≡ deep → ToldFor (unwrap_or (fault_told (if deep then Err too_deep else Ok v)) code.Memory) None n
  by_depth true e = ((λ r. cc, λ r. cc), (λ r. cc, λ r. cc), (λ r. (refl, ltb-true 100 n e), λ r. refl))
  by_depth false e = ((λ r. cc, λ r. cc), (λ r. cc, λ r. cc), (λ r. cc, λ r. let small = ltb-false 100 n e in absurd (omega (arith, small, r.1))))

pub told_refusal : (O : Type 0) (d : json.Data) → ToldFor (unwrap_or (fault_told (from_json {O = O} d)) code.Memory) (first_bad d) (json.depth d)
told_refusal O d = told O (first_bad d) (json.depth d) (value_of d)

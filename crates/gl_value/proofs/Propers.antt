-- What the rules give of a proper value is proper.
use Rattle.std.proofs.Common.{◌≤◌, ℕ, suc, min, List, [], ◌∷◌, Bool, true, false, cond, arith, length, codes, decimal}
use Rattle.std.specs.Str.{bytes_eq}
use Rattle.std.proofs.lemmas.Int.{ints}
use Rattle.gl_base.specs.Texts.{Text}
use Rattle.gl_value.specs.Value.{Value, undefined, null, boolean, integer, text, list, pairs, action, Values, no_values, value, Members, no_members, member, depth, values_depth, members_depth, plain, plain_values, plain_members, values_count, count_value, member_at, item_at, property, properties, split, key_of}
use Rattle.gl_value.specs.Proper.{IsBefore, Keeps, KeepAll, KeepMembers, IsProper}

module _ {O : Type 0} (P : Type 0) where
  before_plain : (k : Text) (ms : Members O) → IsBefore k ms → IsBefore k (plain_members {P = P} ms)
  before_plain k no_members h = tt
  before_plain k (member l v ms) h = h

  mutual
    plain_keeps : (v : Value O) → Keeps v → Keeps (plain {P = P} v)
    plain_keeps undefined h = tt
    plain_keeps null h = tt
    plain_keeps (boolean b) h = tt
    plain_keeps (integer i) h = h
    plain_keeps (text t) h = tt
    plain_keeps (list vs) h = plain_values_keep vs h
    plain_keeps (pairs ms) h = plain_members_keep ms h
    plain_keeps (action o n vs) h = tt

    plain_values_keep : (vs : Values O) → KeepAll vs → KeepAll (plain_values {P = P} vs)
    plain_values_keep no_values h = tt
    plain_values_keep (value v vs) h = (plain_keeps v h.0, plain_values_keep vs h.1)

    plain_members_keep : (ms : Members O) → KeepMembers ms → KeepMembers (plain_members {P = P} ms)
    plain_members_keep no_members h = tt
    plain_members_keep (member k v ms) h = (before_plain k ms h.0, plain_keeps v h.1, plain_members_keep ms h.2)

  mutual
    plain_depth : (v : Value O) → depth (plain {P = P} v) ≤ depth v
    plain_depth undefined = omega arith
    plain_depth null = omega arith
    plain_depth (boolean b) = omega arith
    plain_depth (integer i) = omega arith
    plain_depth (text t) = omega arith
    plain_depth (list vs) = let h = plain_values_depth vs in omega arith
    plain_depth (pairs ms) = let h = plain_members_depth ms in omega arith
    plain_depth (action o n vs) = omega arith

    plain_values_depth : (vs : Values O) → values_depth (plain_values {P = P} vs) ≤ values_depth vs
    plain_values_depth no_values = omega arith
    plain_values_depth (value v vs) = let h = plain_depth v in let k = plain_values_depth vs in omega arith

    plain_members_depth : (ms : Members O) → members_depth (plain_members {P = P} ms) ≤ members_depth ms
    plain_members_depth no_members = omega arith
    plain_members_depth (member n v ms) = let h = plain_depth v in let k = plain_members_depth ms in omega arith

  pub plain_proper : (v : Value O) → IsProper v → IsProper (plain {P = P} v)
  plain_proper v h = let k = plain_depth v in (omega arith, plain_keeps v h.1)

module _ (O : Type 0) where
  pub count_proper : (n : ℕ) → IsProper (count_value {O = O} n)
  count_proper n = (omega arith, (omega (arith, ints), omega (arith, ints)))

  chosen_proper : (b : Bool) (v w : Value O) → IsProper v → IsProper w → IsProper (cond b v w)
  chosen_proper true v w h k = h
  chosen_proper false v w h k = k

  undefined_proper : IsProper {O = O} undefined
  undefined_proper = (omega arith, tt)

  member_proper : (k : Text) (ms : Members O) → members_depth ms ≤ 100 → KeepMembers ms → IsProper (member_at k ms)
  member_proper k no_members d h = undefined_proper
  member_proper k (member l v ms) d h = chosen_proper (bytes_eq k l) v _ (omega arith, h.1) (member_proper k ms (omega arith) h.2)

  item_proper : (k : Text) (i : ℕ) (vs : Values O) → values_depth vs ≤ 100 → KeepAll vs → IsProper (item_at k i vs)
  item_proper k i no_values d h = undefined_proper
  item_proper k i (value v vs) d h = chosen_proper (bytes_eq k (decimal (min i 9007199254740991))) v _ (omega arith, h.0) (item_proper k (suc i) vs (omega arith) h.1)

  pub property_proper : (k : Text) (v : Value O) → IsProper v → IsProper (property k v)
  property_proper k undefined h = undefined_proper
  property_proper k null h = undefined_proper
  property_proper k (boolean b) h = undefined_proper
  property_proper k (integer i) h = undefined_proper
  property_proper k (text t) h = chosen_proper (bytes_eq k (codes "length")) (count_value (length t)) undefined (count_proper (length t)) undefined_proper
  property_proper k (list vs) h = chosen_proper (bytes_eq k (codes "length")) (count_value (values_count vs)) (item_at k 0 vs) (count_proper (values_count vs)) (item_proper k 0 vs (omega arith) h.1)
  property_proper k (pairs ms) h = member_proper k ms (omega arith) h.1
  property_proper k (action o n vs) h = undefined_proper

  pub properties_proper : (ks : List Text) (v : Value O) → IsProper v → IsProper (properties ks v)
  properties_proper [] v h = h
  properties_proper (k ∷ ks) v h = properties_proper ks (property k v) (property_proper k v h)

pub key_proper : {O : Type 0} (P : Type 0) (k : Text) (i : ℕ) (v : Value O) → IsProper v → IsProper (key_of {P = P} k i v)
key_proper {O} P k i v h =
    chosen_proper P (bytes_eq k (codes "@index")) (count_value i) _ (count_proper P i)
    (chosen_proper P (bytes_eq k (codes "@identity")) (plain v) (plain (properties (split 46 k) v)) (plain_proper P v h) (plain_proper P (properties (split 46 k) v) (properties_proper O (split 46 k) v h)))

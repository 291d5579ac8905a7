-- What a key gives to a hash function. Equal keys give the same.
use Rattle.std.specs.Prelude.{ℕ, List, [], ◌∷◌, ◌++◌, encode_utf8_all, fold}
use Rattle.std.specs.Hash as fed
use Rattle.std.specs.Hash.FoldHasher as folding
use Rattle.gl_value.specs.Value.{Value, undefined, null, boolean, integer, text, list, pairs, action, Values, no_values, value, Members, no_members, member}
use Rattle.gl_each.specs.Key.{Key}

abbrev mutual
  pub fed_value : Value ℕ → List (List ℕ)
  fed_value undefined = []
  fed_value null = []
  fed_value (boolean b) = fed.bool b
  fed_value (integer i) = fed.i64 i
  fed_value (text t) = encode_utf8_all t ∷ []
  fed_value (list vs) = fed_values vs
  fed_value (pairs ms) = fed_members ms
  fed_value (action o n vs) = fed.u128 o

  pub fed_values : Values ℕ → List (List ℕ)
  fed_values no_values = []
  fed_values (value v vs) = fed_value v ++ fed_values vs

  pub fed_members : Members ℕ → List (List ℕ)
  fed_members no_members = []
  fed_members (member k v ms) = (encode_utf8_all k ∷ []) ++ (fed_value v ++ fed_members ms)

abbrev pub fed_key : Key → List (List ℕ)
fed_key k = fed_value k.0 ++ fed.u64 k.1

-- the hash of a value
abbrev pub value_hash : Value ℕ → ℕ
value_hash v = folding.finish (fold folding.write folding.initial (fed_value v))

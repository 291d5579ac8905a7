-- How JSON is read where a place in it may be faulty. Members are read in the byte order of their keys, each whole, and items
-- by their places; the first fault ends the reading.
use Rattle.std.specs.Prelude.{ℕ, ◌+◌, List, [], ◌∷◌, ◌++◌, Bool, ⊤, Result, Ok, Err, Option, Some, None, if◌then◌else◌}
use Rattle.gl_base.specs.Texts.{Text}
use Rattle.gl_value.specs.Json.{from_json}
use Rattle.gl_value.specs.Value.{Value}
use Rattle.serde_json.specs.Data as json
use Rattle.gl_meaning.specs.Pointer.{key_step, item_step}

-- what is read, or the pointer of the first place that is faulty
abbrev pub Found : Type 0 → Type 0
Found A = Result A Text

-- the place itself is faulty
abbrev pub faulty : {A : Type 0} → Found A
faulty = Err []

-- the second reading, with what the first gave
infixl 10 ◌then◌
abbrev pub ◌then◌ : {A B : Type 0} → Found A → (A → Found B) → Found B
(Ok x) then f = f x
(Err p) then f = Err p

-- what stands a step further down
abbrev pub under : {A : Type 0} → Text → Found A → Found A
under step (Ok x) = Ok x
under step (Err p) = Err (step ++ p)

-- nothing is faulty where the test holds
abbrev pub sound_if : Bool → Found ⊤
sound_if b = if b then Ok tt else faulty

-- what is there, or the place is faulty
abbrev pub given : {A : Type 0} → Option A → Found A
given None = faulty
given (Some x) = Ok x

-- no member is faulty, and no item
abbrev pub check_members : (List ℕ → json.Data → Found ⊤) → json.Members → Found ⊤
check_members f json.no_members = Ok tt
check_members f (json.member k d ms) = under (key_step k) (f k d) then λ u. check_members f ms

-- the items from a place on
abbrev pub check_items : (ℕ → json.Data → Found ⊤) → ℕ → json.Items → Found ⊤
check_items f n json.no_items = Ok tt
check_items f n (json.item d ds) = under (item_step n) (f n d) then λ u. check_items f (n + 1) ds

-- what each member reads as, and each item
abbrev pub read_members : {A : Type 0} → (List ℕ → json.Data → Found A) → json.Members → Found (List A)
read_members f json.no_members = Ok []
read_members f (json.member k d ms) = under (key_step k) (f k d) then λ x. (read_members f ms then λ xs. Ok (x ∷ xs))

abbrev pub read_items : {A : Type 0} → (json.Data → Found A) → ℕ → json.Items → Found (List A)
read_items f n json.no_items = Ok []
read_items f n (json.item d ds) = under (item_step n) (f d) then λ x. (read_items f (n + 1) ds then λ xs. Ok (x ∷ xs))

-- the value that JSON stands for; where it stands for none, because of a number or of its depth, the place is faulty
abbrev pub value_found : {O F : Type 0} → Result (Value O) F → Found (Value O)
value_found (Ok v) = Ok v
value_found (Err f) = faulty

abbrev pub value_at : {O : Type 0} → json.Data → Found (Value O)
value_at d = value_found (from_json d)

-- An object that is right as a whole, and then member by member; an array in the same way; and a text that is right.
abbrev pub object_check : Bool → (List ℕ → json.Data → Found ⊤) → json.Data → Found ⊤
object_check fits rule (json.object ms) = if fits then check_members rule ms else faulty
object_check fits rule d = faulty

abbrev pub array_check : Bool → (ℕ → json.Data → Found ⊤) → json.Data → Found ⊤
array_check fits rule (json.array ds) = if fits then check_items rule 0 ds else faulty
array_check fits rule d = faulty

abbrev pub text_check : (List ℕ → Bool) → json.Data → Found ⊤
text_check fits (json.string s) = sound_if (fits s)
text_check fits d = faulty

-- whatever is there has the kind alone
abbrev pub is_found : {A : Type 0} → Found A → Found ⊤
is_found found = found then λ x. Ok tt

-- What holds of what is given, where something is.
use Rattle.std.proofs.Common.{◌≡◌, Bool, true, false, cond, Option, Some, None, refl, subst}
use Rattle.std.specs.Prelude.{option_map, option_and_then}
use Rattle.std.specs.Ordering.{match_ordering}
use Rattle.std.specs.declared.cmp.Ordering.{Ordering}
use Rattle.std.specs.declared.cmp.Ordering.TheVariants.{Less, Equal, Greater}
use Rattle.serde_json.specs.Data as json
use Rattle.gl_meaning.specs.JsonText.{members_in}

abbrev pub Gives : {A : Type 0} → (A → Type 0) → Option A → Type 0
Gives P None = Unit {0}
Gives P (Some x) = P x

pub given_map : {A B : Type 0} (P : A → Type 0) (Q : B → Type 0) (f : A → B) → ((x : A) → P x → Q (f x)) → (o : Option A) → Gives P o → Gives Q (option_map f o)
given_map P Q f h None g = tt
given_map P Q f h (Some x) g = h x g

pub given_then : {A B : Type 0} (P : A → Type 0) (Q : B → Type 0) (f : A → Option B) → ((x : A) → P x → Gives Q (f x)) → (o : Option A) → Gives P o → Gives Q (option_and_then f o)
given_then P Q f h None g = tt
given_then P Q f h (Some x) g = h x g

abbrev pub Anything : {A : Type 0} → A → Type 0
Anything x = Unit {0}

pub anything : {A : Type 0} (o : Option A) → Gives Anything o
anything None = tt
anything (Some x) = tt

pub some_given : {A : Type 0} (P : A → Type 0) (o : Option A) (x : A) → Gives P o → o ≡ Some x → P x
some_given P o x g e = subst (Gives P) e g

pub if_given : {A : Type 0} (P : A → Type 0) (b : Bool) (o : Option A) (x : A) → (b ≡ true → Gives P o) → cond b o None ≡ Some x → P x
if_given P true o x h e = some_given P o x (h refl) e
if_given P false o x h e = let r : ⊥ = cc in absurd r

-- a look-up by keys finds what is here or what is further on
pub found_given : {A : Type 0} (P : A → Type 0) (a b : Option A) (o : Ordering) → Gives P a → Gives P b → Gives P (match_ordering o a b a)
found_given P a b Less p q = p
found_given P a b Equal p q = q
found_given P a b Greater p q = p

-- the members of what is given
pub members_given : (P : json.Data → Type 0) (Q : json.Members → Type 0) → ((ms : json.Members) → P (json.object ms) → Q ms) → Q json.no_members → (o : Option json.Data) → Gives P o → Q (members_in o)
members_given P Q h none None g = none
members_given P Q h none (Some json.null) g = none
members_given P Q h none (Some (json.boolean b)) g = none
members_given P Q h none (Some (json.number n)) g = none
members_given P Q h none (Some (json.string s)) g = none
members_given P Q h none (Some (json.array ds)) g = none
members_given P Q h none (Some (json.object ms)) g = h ms g

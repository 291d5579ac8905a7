-- What comes of an update where it ends well, and that the positions of a part are its own.
use Rattle.std.proofs.Common.{ℕ, ◌<◌, List, [], ◌∷◌, ◌++◌, arith}
use Rattle.gl_plain.specs.Ids.{Id, ref}
use Rattle.gl_plain.specs.Naming.{Naming}
use Rattle.gl_plain.specs.Live.{AttrSpot, ModSpot, times, times_in, times_items, times_attrs, times_mods}
use Rattle.gl_plain.specs.Counts.{attr_positions, mod_positions, positions_of, positions_in, positions_items}
use Rattle.gl_kept.specs.Around.{AllIn}
use Rattle.gl_kept.proofs.Stays.{all_more}
use Rattle.gl_machine.specs.Code.{Code, still_code, put_code, element_code, branch_code, listed_code, unlisted_code, let_code, component_code, yield_code, ItemCodes, no_item_codes, item_code, items_of, Codes, no_codes, code_and, live_of, lives_of}
use Rattle.gl_machine.specs.Outcome.{Outcome, ok, deep, lost, on_ok}
use Rattle.gl_machine.specs.RenewCode.{Runs}
use Rattle.gl_guards.specs.Settled.{Ended, OwnAttrs, OwnMods, Owns, OwnsItems, OwnsIn}

-- it ended well, and so
abbrev pub Holds : {A : Type 0} → Outcome A → (A → Type 0) → Type 0
Holds (ok x) P = P x
Holds deep P = ⊥
Holds lost P = ⊥

pub holds_on : {A B : Type 0} (o : Outcome A) (f : A → Outcome B) (Q : B → Type 0) → Holds (on_ok o f) Q → Holds o (λ x. Holds (f x) Q)
holds_on (ok x) f Q h = h
holds_on deep f Q h = h
holds_on lost f Q h = h

pub holds_both : {A : Type 0} (o : Outcome A) (P Q R : A → Type 0) → Ended o P → Holds o Q → ((x : A) → P x → Q x → R x) → Holds o R
holds_both (ok x) P Q R p q f = f x p q
holds_both deep P Q R p q f = q
holds_both lost P Q R p q f = q

pub holds_then : {A : Type 0} (o : Outcome A) (Q R : A → Type 0) → Holds o Q → ((x : A) → Q x → R x) → Holds o R
holds_then (ok x) Q R q f = f x q
holds_then deep Q R q f = q
holds_then lost Q R q f = q

pub ended_then : {A : Type 0} (o : Outcome A) (P Q : A → Type 0) → Ended o P → ((x : A) → P x → Q x) → Ended o Q
ended_then (ok x) P Q h f = f x h
ended_then deep P Q h f = tt
ended_then lost P Q h f = tt

-- a fact that doesn't depend on what came of it
pub holds_fact : {A : Type 0} (o : Outcome A) (R : Type 0) → Holds o (λ x. R) → R
holds_fact (ok x) R h = h
holds_fact deep R h = absurd h
holds_fact lost R h = absurd h

pub all_both : (c : Id → ℕ) (xs ys : List ℕ) → AllIn c xs → AllIn c ys → AllIn c (xs ++ ys)
all_both c [] ys h k = k
all_both c (x ∷ xs) ys h k = (h.0, all_both c xs ys h.1 k)

-- the positions of a part are its own
pub attrs_in : (c : Id → ℕ) (xs : List AttrSpot) → ((q : Id) → 0 < times_attrs q xs → 0 < c q) → OwnAttrs xs → AllIn c (attr_positions xs)
attrs_in c [] f h = tt
attrs_in c (a ∷ xs) f h = (f (ref a.spot.ref) (let i = h.0 in omega (arith, i)), attrs_in c xs (λ q w. f q (omega (arith, w))) h.1)

pub mods_in : (c : Id → ℕ) (zs : List ModSpot) → ((q : Id) → 0 < times_mods q zs → 0 < c q) → OwnMods zs → AllIn c (mod_positions zs)
mods_in c [] f h = tt
mods_in c (z ∷ zs) f h = (f (ref z.spot.ref) (let i = h.0 in omega (arith, i)), mods_in c zs (λ q w. f q (omega (arith, w))) h.1)

module _ (naming : Naming) (run : Runs) where
  mutual
    pub code_in : (c : Code) → Owns naming run c → AllIn (λ q. times q (live_of c)) (positions_of (live_of c))
    code_in (still_code n) o = tt
    code_in (put_code n s) o = (omega (arith, o), tt)
    code_in (element_code n made xs zs cs) o =
        let c : Id → ℕ = λ q. times q (live_of (element_code n made xs zs cs)) in
        all_both c (attr_positions xs) (positions_in (lives_of cs) ++ mod_positions zs) (attrs_in c xs (λ q w. omega (arith, w)) o.0)
        (all_both c (positions_in (lives_of cs)) (mod_positions zs) (all_more (λ q. times_in q (lives_of cs)) c (λ q. omega arith) (positions_in (lives_of cs)) (codes_in cs o.2)) (mods_in c zs (λ q w. omega (arith, w)) o.1))
    code_in (branch_code z s u k cs) o =
        let i = o.0 in (omega (arith, i), all_more (λ q. times_in q (lives_of cs)) (λ q. times q (live_of (branch_code z s u k cs))) (λ q. omega arith) (positions_in (lives_of cs)) (codes_in cs o.2))
    code_in (listed_code z s is) o =
        let i = o.0 in (omega (arith, i), all_more (λ q. times_items q (items_of is)) (λ q. times q (live_of (listed_code z s is))) (λ q. omega arith) (positions_items (items_of is)) (items_in is o.2))
    code_in (unlisted_code z s k cs) o =
        let i = o.0 in (omega (arith, i), all_more (λ q. times_in q (lives_of cs)) (λ q. times q (live_of (unlisted_code z s k cs))) (λ q. omega arith) (positions_in (lives_of cs)) (codes_in cs o.2))
    code_in (let_code made rs cs) o = all_more (λ q. times_in q (lives_of cs)) (λ q. times q (live_of (let_code made rs cs))) (λ q. omega arith) (positions_in (lives_of cs)) (codes_in cs o)
    code_in (component_code i made gm args k cs) o = all_more (λ q. times_in q (lives_of cs)) (λ q. times q (live_of (component_code i made gm args k cs))) (λ q. omega arith) (positions_in (lives_of cs)) (codes_in cs o)
    code_in (yield_code n made rs cs) o = all_more (λ q. times_in q (lives_of cs)) (λ q. times q (live_of (yield_code n made rs cs))) (λ q. omega arith) (positions_in (lives_of cs)) (codes_in cs o)

    pub items_in : (is : ItemCodes) → OwnsItems naming run is → AllIn (λ q. times_items q (items_of is)) (positions_items (items_of is))
    items_in no_item_codes o = tt
    items_in (item_code z k cs is) o =
        let c : Id → ℕ = λ q. times_items q (items_of (item_code z k cs is)) in
        all_both c (positions_in (lives_of cs)) (positions_items (items_of is)) (all_more (λ q. times_in q (lives_of cs)) c (λ q. omega arith) (positions_in (lives_of cs)) (codes_in cs o.0))
        (all_more (λ q. times_items q (items_of is)) c (λ q. omega arith) (positions_items (items_of is)) (items_in is o.1))

    pub codes_in : (cs : Codes) → OwnsIn naming run cs → AllIn (λ q. times_in q (lives_of cs)) (positions_in (lives_of cs))
    codes_in no_codes o = tt
    codes_in (code_and k cs) o =
        let c : Id → ℕ = λ q. times_in q (lives_of (code_and k cs)) in
        all_both c (positions_of (live_of k)) (positions_in (lives_of cs)) (all_more (λ q. times q (live_of k)) c (λ q. omega arith) (positions_of (live_of k)) (code_in k o.0))
        (all_more (λ q. times_in q (lives_of cs)) c (λ q. omega arith) (positions_in (lives_of cs)) (codes_in cs o.1))

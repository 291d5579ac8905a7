-- The laws.
use Rattle.std.proofs.Common.{◌≡◌, ℕ, zero, suc, List, [], ◌∷◌, filter, true, refl, ◌∙◌, ap, ap₂, subst, arith, ◌+◌}
use Rattle.gl_value.specs.Value.{Values}
use Rattle.gl_meaning.specs.Path.{items, Path}
use Rattle.gl_meaning.specs.Render.{entries, values_listed}
use Rattle.gl_plain.specs.State.{State}
use Rattle.gl_plain.specs.Naming.{by_path, by_number, dropped_as}
use Rattle.gl_plain.specs.Binding.{first_value}
use Rattle.gl_plain.specs.Live.{times_in, times_items}
use Rattle.gl_plain.specs.Renew.{spot_pairs}
use Rattle.gl_kept.specs.Around.{with_made}
use Rattle.gl_machine.specs.Code.{Code, still_code, put_code, element_code, branch_code, listed_code, unlisted_code, let_code, component_code, yield_code, lives_of, items_of}
use Rattle.gl_machine.specs.Outcome.{Outcome, ok, on_ok}
use Rattle.gl_machine.specs.RenewCode.{by_values, sync_codes_as, code_handles_as, fresh_item_as, fresh_other}
use Rattle.gl_guards.specs.Questions.{codes_asks_as}
use Rattle.std.specs.Prelude.{if◌then◌else◌}
use Rattle.gl_guards.specs.Guarded.{any_stale}
use Rattle.gl_guards.specs.Settled.{Fits, SettledIn}
use Rattle.gl_guards.specs.Laws.{NamingsApart, FreshStays, FreshStaysIn, FreshStaysItems, FreshStaysRoot, ListGoesAlong, GuardedIsRenew, GuardedIsRenewIn, GuardedIsRenewItems, GuardedIsRenewRoot, EnteredIsRenew, EnteredIsRenewRoot, FreshAsksOne}
use Rattle.gl_guards.proofs.Leaves.{all_left}
use Rattle.gl_guards.proofs.Fresh.{code_stays, codes_stay, items_stay, reread_idle, list_chosen, or_right}
use Rattle.gl_guards.proofs.Steps.{room_less, room_into}
use Rattle.gl_guards.proofs.Same.{fresh_alone, walks, region_same, code_same, codes_same, items_same}

all_pass : (xs : List ℕ) → filter (λ m. true) xs ≡ xs
all_pass [] = refl
all_pass (x ∷ xs) = ap (λ ys. x ∷ ys) (all_pass xs)

pub namings_apart : NamingsApart
namings_apart = (
  record { came = λ x st. all_left by_path st (λ q. 0); went = λ count st. all_left by_path st (λ q. 0); none = λ st. refl },
  record {
    came = λ x st. record { more = λ q. omega arith; rows = λ q lt z. refl; still = λ y g e. or_right _ _ e };
    went = λ count st. let h = all_left by_number st (λ q. 0) in record { more = h.more; rows = h.rows; still = h.still };
    none = λ st.
        ap₂ (λ a b. record { look = st.look; next = st.next; touched = st.touched; evaluated = st.evaluated; installs = a; updates = b }) (all_pass st.installs) (all_pass st.updates);
  },
)

pub fresh_stays : FreshStays
fresh_stays naming notes run around m p c st may e = code_stays naming notes run st m p around c may.settled may.nests e

pub fresh_stays_in : FreshStaysIn
fresh_stays_in naming notes run around m p i cs st may e = codes_stay naming notes run st m p i around cs may.settled may.nests e

pub fresh_stays_items : FreshStaysItems
fresh_stays_items naming notes run around m p z xs is st may f e = items_stay naming notes run st (fresh_item_as naming run z m) m p around xs is f may.settled may.nests e

pub fresh_stays_root : FreshStaysRoot
fresh_stays_root naming notes run around zero (component_code i made gm args k cs) st may r is e = absurd may.nests
fresh_stays_root naming notes run around (suc m) (component_code i made gm args k cs) st may r is e =
    ap (λ o. on_ok o (λ y. ok (component_code i made gm args k y.0, y.1)))
    (codes_stay naming notes run st m [] 0 (with_made made around) cs (subst (λ q. SettledIn naming st (with_made made around) q 0 cs) r may.settled.1) may.nests e)
fresh_stays_root naming notes run around m _ st may r is e = absurd is

pub list_goes_along : ListGoesAlong
list_goes_along naming notes run around m p z x is st may e =
    let one = fresh_item_as naming run z m in
    let F : Values Path → State → Outcome (Code × State) = λ vs t. on_ok (sync_codes_as naming one (items ∷ p) (entries z.key 0 [] vs) (code_handles_as naming run m is) t) (λ r. ok (listed_code z x r.0, r.1)) in
    let G : State → Outcome (Code × State) = λ t. fresh_other run z x p m (dropped_as naming (λ q. times_items q (items_of is)) t) in
    ap (λ t. by_values (values_listed (first_value (spot_pairs t x.ref))) (λ vs. F vs t) (G t)) (reread_idle x.ref st e)
    ∙ list_chosen (values_listed (first_value (spot_pairs st x.ref))) (λ vs. Fits st.look (entries z.key 0 [] vs) is) (λ vs. F vs st) (G st) _
    (λ vs f. ap (λ o. on_ok o (λ r. ok (listed_code z x r.0, r.1)))
    (walks naming notes run one m (items ∷ p) around (entries z.key 0 [] vs) is st (room_less st around (λ q. times_items q (items_of is)) _ (λ q. omega arith) may.room) may.owns.2 f)) (may.settled.0.holds e)

pub entered_is_renew : EnteredIsRenew
entered_is_renew naming notes run enters safe once around m p c st may = code_same naming notes run enters safe once m p around c st may.room may.owns may.settled may.nests

pub entered_is_renew_root : EnteredIsRenewRoot
entered_is_renew_root naming notes run first passes enters safe once around zero k st may r = refl
entered_is_renew_root naming notes run first passes enters safe once around (suc m) (component_code i made gm args k cs) st may r =
    let inside = with_made made around in
    let s = subst (λ q. SettledIn naming st inside q 0 cs) r may.settled.1 in
    let room = room_into st around (λ q. times_in q (lives_of cs)) made may.settled.0 may.room in
    ap (λ o. on_ok o (λ y. ok (component_code i made gm args k y.0, y.1)))
    (region_same naming notes run first passes m [] inside cs st s may.nests (codes_same naming notes run enters safe once m [] 0 inside cs st room may.owns s may.nests))
entered_is_renew_root naming notes run first passes enters safe once around (suc m) (still_code n) st may r = refl
entered_is_renew_root naming notes run first passes enters safe once around (suc m) (put_code n s) st may r = refl
entered_is_renew_root naming notes run first passes enters safe once around (suc m) (element_code n made xs zs cs) st may r = refl
entered_is_renew_root naming notes run first passes enters safe once around (suc m) (branch_code z s u k cs) st may r = refl
entered_is_renew_root naming notes run first passes enters safe once around (suc m) (listed_code z s is) st may r = refl
entered_is_renew_root naming notes run first passes enters safe once around (suc m) (unlisted_code z s k cs) st may r = refl
entered_is_renew_root naming notes run first passes enters safe once around (suc m) (let_code made rs cs) st may r = refl
entered_is_renew_root naming notes run first passes enters safe once around (suc m) (yield_code n made rs cs) st may r = refl

pub guarded_is_renew : GuardedIsRenew
guarded_is_renew naming notes run around m p c st may = entered_is_renew naming notes run any_stale fresh_alone true around m p c st may

pub guarded_is_renew_in : GuardedIsRenewIn
guarded_is_renew_in naming notes run around m p i cs st may = codes_same naming notes run any_stale fresh_alone true m p i around cs st may.room may.owns may.settled may.nests

pub guarded_is_renew_items : GuardedIsRenewItems
guarded_is_renew_items naming notes run around m p is st may = items_same naming notes run any_stale fresh_alone true m p around is st may.room may.owns may.settled may.nests

pub guarded_is_renew_root : GuardedIsRenewRoot
guarded_is_renew_root naming notes run around m k st may r = entered_is_renew_root naming notes run any_stale fresh_alone any_stale fresh_alone true around m k st may r

pub fresh_asks_one : FreshAsksOne
fresh_asks_one naming run zero k st e = omega arith
fresh_asks_one naming run (suc m) (component_code i made gm args k cs) st e =
    let r = ap (λ b. 1 + (if b then codes_asks_as naming run m [] 0 cs st else 0)) e in omega (arith, r)
fresh_asks_one naming run (suc m) (still_code n) st e = omega arith
fresh_asks_one naming run (suc m) (put_code n s) st e = omega arith
fresh_asks_one naming run (suc m) (element_code n made xs zs cs) st e = omega arith
fresh_asks_one naming run (suc m) (branch_code z s u k cs) st e = omega arith
fresh_asks_one naming run (suc m) (listed_code z s is) st e = omega arith
fresh_asks_one naming run (suc m) (unlisted_code z s k cs) st e = omega arith
fresh_asks_one naming run (suc m) (let_code made rs cs) st e = omega arith
fresh_asks_one naming run (suc m) (yield_code n made rs cs) st e = omega arith

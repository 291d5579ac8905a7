-- What is there stays there while its own things stay, or read no more than they did.
use Rattle.std.proofs.Common.{◌≡◌, ℕ, ◌<◌, ◌≤◌, List, [], ◌∷◌, Option, Some, None, sym, subst, arith}
use Rattle.gl_meaning.specs.App.{App}
use Rattle.gl_plain.specs.Ids.{Kind, a_ref, a_node, an_instance, a_block, a_modifier, Id, ref, node, modifier_id, occurs}
use Rattle.gl_plain.specs.State.{Thing, row, content, instance_row, block_row, modifier_row}
use Rattle.gl_plain.specs.Binding.{Spot}
use Rattle.gl_plain.specs.Live.{AttrSpot, ModSpot, item_made, Live, still, put_live, element_live, branch_live, listed, unlisted, let_live, component_live, yield_live, deep_live, Items, no_items, item_live, Lives, no_lives, live_and, times, times_in, times_items, times_attrs, times_mods, times_comment}
use Rattle.gl_plain.specs.Reads.{reads}
use Rattle.gl_plain.proofs.Moves.{hit_self}
use Rattle.gl_plain.proofs.Stay.{left_above, right_above}
use Rattle.gl_kept.specs.Around.{AllIn, IsThing, with_made, AllThere, SpotThere, CommentThere, AttrsThere, ModsThere, There, ThereIn, ThereItems}

-- more is counted
abbrev pub Wider : (Id → ℕ) → (Id → ℕ) → Type 0
Wider c d = (q : Id) → c q ≤ d q

pub all_more : (c d : Id → ℕ) → Wider c d → (rs : List ℕ) → AllIn c rs → AllIn d rs
all_more c d f [] h = tt
all_more c d f (r ∷ rs) h = (let w = f (ref r) in let k = h.0 in omega (arith, w, k), all_more c d f rs h.1)

pub thing_more : (c d : Id → ℕ) → Wider c d → (k : Kind) (t : Option Thing) → IsThing c k t → IsThing d k t
thing_more c d f a_ref (Some (row x)) h = all_more c d f (reads x.form) h
thing_more c d f a_node (Some (content x)) h = tt
thing_more c d f an_instance (Some (instance_row i)) h = tt
thing_more c d f a_block (Some block_row) h = tt
thing_more c d f a_modifier (Some (modifier_row x)) h = tt
thing_more c d f _ _ h = absurd h

pub thing_same : (c : Id → ℕ) (k : Kind) (t t' : Option Thing) → t' ≡ t → IsThing c k t → IsThing c k t'
thing_same c k t t' e h = subst (IsThing c k) (sym e) h

-- what is counted is still there, and reads no more than it did
abbrev pub Eases : (Id → Option Thing) → (Id → Option Thing) → (Id → ℕ) → Type 0
Eases look look' count = (q : Id) → 0 < count q → (c : Id → ℕ) → IsThing c q.kind (look q) → IsThing c q.kind (look' q)

pub same_eases : (look look' : Id → Option Thing) (count : Id → ℕ) → ((q : Id) → 0 < count q → look' q ≡ look q) → Eases look look' count
same_eases look look' count same q w c h = thing_same c q.kind (look q) (look' q) (same q w) h

pub all_stay : (look look' : Id → Option Thing) (around : Id → ℕ) (made : List Id) → Eases look look' (λ q. occurs q made) → AllThere look around made → AllThere look' around made
all_stay look look' around made e h = λ q w. e q w (with_made made around) (h q w)

module _ (app : App) (look look' : Id → Option Thing) where
  pub spot_stays : (around : Id → ℕ) (z : Spot) → Eases look look' (λ q. occurs q z.made) → SpotThere app look around z → SpotThere app look' around z
  spot_stays around z e h = (h.0, all_stay look look' around z.made e h.1)

  pub comment_stays : (o : Option ℕ) → Eases look look' (λ q. times_comment q o) → CommentThere app look o → CommentThere app look' o
  comment_stays None e h = tt
  comment_stays (Some n) e h = e (node n) (hit_self (node n)) (λ q. 0) h

  pub attrs_stay : (around : Id → ℕ) (xs : List AttrSpot) → Eases look look' (λ q. times_attrs q xs) → AttrsThere app look around xs → AttrsThere app look' around xs
  attrs_stay around [] e h = tt
  attrs_stay around (a ∷ xs) e h = (spot_stays around a.spot (λ q w. e q (left_above _ _ w)) h.0, attrs_stay around xs (λ q w. e q (right_above _ _ w)) h.1)

  pub mods_stay : (around : Id → ℕ) (zs : List ModSpot) → Eases look look' (λ q. times_mods q zs) → ModsThere app look around zs → ModsThere app look' around zs
  mods_stay around [] e h = tt
  mods_stay around (z ∷ zs) e h = (
    e (modifier_id z.id) (left_above _ _ (left_above _ _ (hit_self _))) (λ q. 0) h.0,
    spot_stays around z.spot (λ q w. e q (left_above _ _ (right_above _ _ w))) h.1,
    mods_stay around zs (λ q w. e q (right_above _ _ w)) h.2,
  )

  mutual
    pub stay : (around : Id → ℕ) (l : Live) → Eases look look' (λ q. times q l) → There app look around l → There app look' around l
    stay around (still n) e h = e (node n) (hit_self (node n)) (λ q. 0) h
    stay around (put_live n z) e h = (e (node n) (left_above _ _ (hit_self (node n))) (λ q. 0) h.0, spot_stays around z (λ q w. e q (right_above _ _ w)) h.1)
    stay around (element_live n made xs zs ls) e h = (
      e (node n) (left_above _ _ (left_above _ _ (hit_self (node n)))) (λ q. 0) h.0,
      all_stay look look' around made (λ q w. e q (left_above _ _ (right_above _ _ (left_above _ _ w)))) h.1,
      attrs_stay (with_made made around) xs (λ q w. e q (left_above _ _ (right_above _ _ (right_above _ _ w)))) h.2,
      mods_stay (with_made made around) zs (λ q w. e q (right_above _ _ (right_above _ _ w))) h.3,
      stay_in around ls (λ q w. e q (right_above _ _ (left_above _ _ w))) h.4,
    )
    stay around (branch_live z u k ls) e h = (
      spot_stays around z (λ q w. e q (left_above _ _ w)) h.0,
      comment_stays k (λ q w. e q (right_above _ _ (right_above _ _ w))) h.1,
      stay_in around ls (λ q w. e q (right_above _ _ (left_above _ _ w))) h.2,
    )
    stay around (listed z is) e h = (spot_stays around z (λ q w. e q (left_above _ _ w)) h.0, stay_items around is (λ q w. e q (right_above _ _ w)) h.1)
    stay around (unlisted z k ls) e h = (
      spot_stays around z (λ q w. e q (left_above _ _ w)) h.0,
      comment_stays k (λ q w. e q (right_above _ _ (right_above _ _ w))) h.1,
      stay_in around ls (λ q w. e q (right_above _ _ (left_above _ _ w))) h.2,
    )
    stay around (let_live made rs ls) e h =
        (all_stay look look' around made (λ q w. e q (left_above _ _ w)) h.0, h.1, stay_in (with_made made around) ls (λ q w. e q (right_above _ _ w)) h.2)
    stay around (component_live i made gm args b ls) e h =
        (all_stay look look' around made (λ q w. e q (left_above _ _ w)) h.0, h.1, h.2, stay_in (with_made made around) ls (λ q w. e q (right_above _ _ w)) h.3)
    stay around (yield_live n made rs ls) e h =
        (all_stay look look' around made (λ q w. e q (left_above _ _ w)) h.0, h.1, stay_in (with_made made around) ls (λ q w. e q (right_above _ _ w)) h.2)
    stay around (deep_live p) e h = tt

    pub stay_items : (around : Id → ℕ) (is : Items) → Eases look look' (λ q. times_items q is) → ThereItems app look around is → ThereItems app look' around is
    stay_items around no_items e h = tt
    stay_items around (item_live z k ls is) e h = (
      (
        all_stay look look' around (item_made z) (λ q w. e q (left_above _ _ (left_above _ _ w))) h.0.0,
        h.0.1,
        comment_stays k (λ q w. e q (left_above _ _ (right_above _ _ (right_above _ _ w)))) h.0.2,
        stay_in (with_made (item_made z) around) ls (λ q w. e q (left_above _ _ (right_above _ _ (left_above _ _ w)))) h.0.3,
      ),
      stay_items around is (λ q w. e q (right_above _ _ w)) h.1,
    )

    pub stay_in : (around : Id → ℕ) (ls : Lives) → Eases look look' (λ q. times_in q ls) → ThereIn app look around ls → ThereIn app look' around ls
    stay_in around no_lives e h = tt
    stay_in around (live_and l ls) e h = (stay around l (λ q w. e q (left_above _ _ w)) h.0, stay_in around ls (λ q w. e q (right_above _ _ w)) h.1)

-- The update that goes along the items of each list whose position isn't stale, in order, and passes over small regions, and a page, in which nothing is stale.
use Rattle.std.specs.Prelude.{ℕ, ◌-◌, ◌^◌, List, length, Bool, false, ◌||◌, nat_lt}
use Rattle.gl_meaning.specs.Path.{Path}
use Rattle.gl_plain.specs.State.{State}
use Rattle.gl_plain.specs.Naming.{Naming}
use Rattle.gl_plain.specs.Counts.{positions_in, positions_items}
use Rattle.gl_machine.specs.Code.{Code, Codes, ItemCodes, lives_of, items_of}
use Rattle.gl_machine.specs.Outcome.{Outcome}
use Rattle.gl_machine.specs.RenewCode.{Runs, CodeHandle}
use Rattle.gl_guards.specs.Guarded.{any_stale, entering, entered_code_as, entered_codes_as, entered_items_as, entered_handles_as, entered_root_code_as}

-- A region is entered where it has more positions than so many, which are not asked then, or where one of them is stale.
abbrev pub enters_over : ℕ → State → List ℕ → Bool
enters_over most st rs = nat_lt most (length rs) || any_stale st rs

-- the most positions of a region that is asked
unfoldable pub few : ℕ
few = 32

abbrev pub enters_few : State → List ℕ → Bool
enters_few st rs = enters_over few st rs

-- Of the page as a whole each position is asked, as many as a machine holds, so that one in which nothing is stale is passed over.
unfoldable pub whole : ℕ
whole = 2 ^ 64 - 1

abbrev pub enters_whole : State → List ℕ → Bool
enters_whole st rs = enters_over whole st rs

abbrev pub along_code_as : Naming → Runs → ℕ → Path → Code → State → Outcome (Code × State)
along_code_as naming run m p c st = entered_code_as naming run enters_few false m p c st

abbrev pub along_codes_as : Naming → Runs → ℕ → Path → ℕ → Codes → State → Outcome (Codes × State)
along_codes_as naming run m p i cs st = entered_codes_as naming run enters_few false m p i cs st

-- a body that is a region: of a component, of a branch, or of an item
abbrev pub along_body_as : Naming → Runs → ℕ → Path → Codes → State → Outcome (Codes × State)
along_body_as naming run m p cs st = entering enters_few st (positions_in (lives_of cs)) cs (along_codes_as naming run m p 0 cs st)

-- the body of the page
abbrev pub along_page_as : Naming → Runs → ℕ → Path → Codes → State → Outcome (Codes × State)
along_page_as naming run m p cs st = entering enters_whole st (positions_in (lives_of cs)) cs (along_codes_as naming run m p 0 cs st)

abbrev pub along_items_as : Naming → Runs → ℕ → Path → ItemCodes → State → Outcome (ItemCodes × State)
along_items_as naming run m p is st = entered_items_as naming run enters_few false m p is st

-- the items of a list, as a region
abbrev pub along_list_as : Naming → Runs → ℕ → Path → ItemCodes → State → Outcome (ItemCodes × State)
along_list_as naming run m p is st = entering enters_few st (positions_items (items_of is)) is (along_items_as naming run m p is st)

abbrev pub along_handles_as : Naming → Runs → ℕ → ItemCodes → List CodeHandle
along_handles_as naming run m is = entered_handles_as naming run enters_few false m is

abbrev pub along_root_code_as : Naming → ℕ → Runs → Code → State → Outcome (Code × State)
along_root_code_as naming m run k st = entered_root_code_as naming enters_whole enters_few false m run k st

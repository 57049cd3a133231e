-- What holds of the station besides its promise; proved in proofs/Errors. Assumes nothing.
use Rattle.std.specs.Prelude.{ℕ, ◌≡◌, List, ◌⊎◌}
use Rattle.table_registers.specs.declared.Verdict.TheVariants.{Granted, Lacking, Unfit}
use Rattle.table_registers.specs.Operation.{Judge, after, shows}
use Rattle.station.specs.Site.{good, error, Done, done}
use Rattle.mewtocol_frame.specs.declared.Limits.{Limits}
use Rattle.mewtocol_requests.specs.Requests.{Request}
use Rattle.mewtocol_requests.specs.Reading.{faulty, request}
use Rattle.mewtocol_requests.specs.Hearing.{read_frame}
use Rattle.mewtocol_station.specs.Replies.{operation_of, reply_of}
use Rattle.mewtocol_station.specs.Station.{errors, reading_asks}

-- the error numbers are 40, 41, 42, 60, 61 and 66, and no other
abbrev pub ErrorNumber : ℕ → Type 0
ErrorNumber n = (n ≡ 0x40) ⊎ ((n ≡ 0x41) ⊎ ((n ≡ 0x42) ⊎ ((n ≡ 0x60) ⊎ ((n ≡ 0x61) ⊎ (n ≡ 0x66)))))

-- 66: the request that the frame asks names a word, the first such at this place, that lacks what is needed
pub record Lacks (l : Limits) (judge : Judge) (words frame : List ℕ) (number : ℕ) : Type 0 where
  pub asked : Request
  pub asked_is : read_frame l frame ≡ request asked
  pub place : ℕ
  pub lacking : judge words (operation_of asked) ≡ Lacking place
  pub number_is : number ≡ 0x66

-- 61 besides that of the steps: the profile doesn't take what the request would leave
pub record Misfits (l : Limits) (judge : Judge) (words frame : List ℕ) (number : ℕ) : Type 0 where
  pub asked : Request
  pub asked_is : read_frame l frame ≡ request asked
  pub unfit : judge words (operation_of asked) ≡ Unfit
  pub number_is : number ≡ 0x61

-- an error is what the frame is read as, or 66, or the profile's 61; it leaves every word as it was
pub record Error (l : Limits) (judge : Judge) (words frame : List ℕ) (d : Done) : Type 0 where
  pub number : ℕ
  pub one-of-six : ErrorNumber number
  pub reason : (read_frame l frame ≡ faulty number) ⊎ (Lacks l judge words frame number ⊎ Misfits l judge words frame number)
  pub says_is : d.says ≡ error number
  pub words-stay : d.words ≡ words

-- a good reply to the request that the frame asks: every named word has what is needed, the profile takes it, and all of the operation is done
pub record Good (l : Limits) (judge : Judge) (words frame : List ℕ) (d : Done) : Type 0 where
  pub asked : Request
  pub asked_is : read_frame l frame ≡ request asked
  pub granted : judge words (operation_of asked) ≡ Granted
  pub says_is : d.says ≡ good (reply_of asked (shows (operation_of asked) words))
  pub words-is : d.words ≡ after (operation_of asked) words

-- of the request that the frame asks, and no other
abbrev pub ErrorOrGood : Type 0
ErrorOrGood = (l : Limits) (judge : Judge) (words frame : List ℕ)
    → let d : Done = done errors judge words (reading_asks (read_frame l frame)) in Error l judge words frame d ⊎ Good l judge words frame d

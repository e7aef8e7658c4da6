-- Which changes each call makes, by its name: the one walk over what calls decide that knows the
-- call.
use Rattle.std.specs.Prelude.{if◌then◌else◌, ◌==◌, ◌≡◌, ◌&&◌, ◌||◌, ℕ, ◌+◌, ◌-◌, Bool, true, false, not, Option, Some, None, List, [], ◌∷◌, ◌++◌, is_some, length, nat_lt, slice_get, slice_index_or, unwrap_or, Result, Ok, Err, refl}
use Rattle.its_word.specs.Byte.{load_of}
use Rattle.its_word.specs.Core.{Core, word_at, can_store}
use Rattle.its_word.specs.Word.{right_of}
use Rattle.its_word.specs.declared.access.Fault.{Fault}
use Rattle.its_records.specs.Links.{most_links}
use Rattle.its_records.specs.Tree.{least_free}
use Rattle.its_records.proofs.FreeLaws.{least_empty}
use Rattle.its_records.specs.declared.calls.Ask.{Ask}
use Rattle.its_records.specs.declared.calls.Exit.{Exit}
use Rattle.its_frame.specs.Variables.{variable_named}
use Rattle.its_frame.specs.declared.change.Change.{Change}
use Rattle.its_frame.specs.declared.change.Change.TheVariants as changes
use Rattle.its_frame.specs.declared.change.Opened.TheVariants as opened
use Rattle.its_frame.specs.declared.decision.Decision.{Decision}
use Rattle.its_frame.specs.declared.decision.Decision.TheVariants.{Waits, Goes, Ends, Gone}
use Rattle.its_frame.specs.declared.decision.Wait.TheVariants.{Input, Output, Drained, Empty, Room}
use Rattle.its_frame.specs.declared.name.CallName.{CallName}
use Rattle.its_frame.specs.declared.name.CallName.TheVariants as calls
use Rattle.its_frame.specs.declared.variable.Variable.{Variable}
use Rattle.its_plain.specs.Call.Arguments.{input, has_input, place_of_input}
use Rattle.its_plain.specs.Call.Basic.{ioc, Oneself, party_on, is_oneself, channel_at, by_oneself, set_own, own_variable, set_other, value_of_other, by_superior, other_variable, usrvar_of, usrvar, dismissed_by, dismiss_at, dismiss, told_superior, longest_period, is_negative, negated, alarm_of, sleep_tests, sleep, realt}
use Rattle.its_plain.specs.Call.Core.{page_changed, highest_operation, page_tests, pages_of, corblk_of, corblk}
use Rattle.its_plain.specs.Call.Device.{open_by, open_call, close_on, close_call, iot_on, iot_call, siot_on, siot_call}
use Rattle.its_plain.specs.Call.File.{disk_device, most_files, is_full, channels_in, has_file, is_read, words_of, names_from, is_output, opens_as, disk_tests, opens_disk, closes_draft, iot_read, siot_read, siot_write, access_to, access_on, access, end_of_core, fillen_on, fillen, file_tests, delete, rename}
use Rattle.its_plain.specs.Call.Link.{link_device, words_in, is_dry, is_ended, is_crowded, is_unread, can_open, link_named, joins, makes_link, opens_end, link_tests, opens_link, first_word, iot_receive, siot_receive, siot_send}
use Rattle.its_plain.specs.Call.Tty.{view_console, has_console, can_take, is_holder, lands, ttylnd_of, ttylnd, input_waits, output_waits, output_left, first_typed, shown_byte, opens_on, open_tests, opens, siot_in, siot_out, finish_on, finish, listens, listen_on, listen}
use Rattle.its_plain.specs.Call.Usr.{usr_device, any_named, inferior_named, makes_job, opens_job, usr_tests, opens_usr, other_core, at_end, iot_peeks, iot_through, siot_peeks, siot_pokes, set_word, usrmem_tests, usrmem_on, usrmem, uclose_on, uclose}
use Rattle.its_plain.specs.Call.Decide.{call_named, decided_by, decided}
use Rattle.its_plain.specs.Unit.Interrupt.{after_dismissal}
use Rattle.its_plain.specs.Machine.{File, Chan, Shut, TtyIn, TtyOut, Reads, Writes, On, Linked}
use Rattle.its_plain.specs.Machine.Own.{names_of}
use Rattle.its_plain.specs.Call.Tests.{◌⇒◌, finishes, fails, goes, out}
use Rattle.its_plain.specs.Call.Transfer.{store_tests, read_tests, word_of, iot_ends, next_pointer, siot_tests, siot_by}
use Rattle.its_plain.specs.Machine.View.{View}
use Rattle.its_stepped.proofs.Duties.CallWays.{page_by}
use Rattle.its_stepped.proofs.Committing.ChannelLaws.{free_channel}
use Rattle.its_stepped.proofs.Committing.TestLaws.{by_test, first_holds}

-- a change that a call other than OPEN can make
abbrev pub CanMake : Option CallName → Change → Type 0
CanMake (Some calls.Close) (changes.Shut n) = Unit {0}
CanMake (Some calls.Close) (changes.Close n) = Unit {0}
CanMake (Some calls.Close) (changes.CloseEnd n l write) = Unit {0}
CanMake (Some calls.Iot) (changes.Move n at) = Unit {0}
CanMake (Some calls.Iot) (changes.Append n w) = Unit {0}
CanMake (Some calls.Iot) (changes.Take c) = Unit {0}
CanMake (Some calls.Iot) (changes.Put c b) = Unit {0}
CanMake (Some calls.Iot) (changes.Poke s at w) = Unit {0}
CanMake (Some calls.Iot) (changes.Send l w) = Unit {0}
CanMake (Some calls.Iot) (changes.Receive l) = Unit {0}
CanMake (Some calls.Siot) (changes.Move n at) = Unit {0}
CanMake (Some calls.Siot) (changes.Append n w) = Unit {0}
CanMake (Some calls.Siot) (changes.Take c) = Unit {0}
CanMake (Some calls.Siot) (changes.Put c b) = Unit {0}
CanMake (Some calls.Siot) (changes.Poke s at w) = Unit {0}
CanMake (Some calls.Siot) (changes.Send l w) = Unit {0}
CanMake (Some calls.Siot) (changes.Receive l) = Unit {0}
CanMake (Some calls.Usrvar) (changes.Set s x w) = Unit {0}
CanMake (Some calls.Usrmem) (changes.Poke s at w) = Unit {0}
CanMake (Some calls.Access) (changes.Move n at) = Unit {0}
CanMake (Some calls.Ttylnd) (changes.Hold c s) = Unit {0}
CanMake (Some calls.Delete) (changes.Delete d x y) = Unit {0}
CanMake (Some calls.Rename) (changes.Rename d x y u v) = Unit {0}
CanMake (Some calls.Corblk) (changes.Map s k) = Unit {0}
CanMake (Some calls.Corblk) (changes.Unmap s k) = Unit {0}
CanMake (Some calls.Corblk) (changes.Protect s k w) = Unit {0}
CanMake (Some calls.Realt) (changes.Arm o) = Unit {0}
CanMake (Some calls.Uclose) (changes.Remove s) = Unit {0}
CanMake _ _ = ⊥

-- OPEN opens a channel that was closed: on what is there, on an end of a link, or on an inferior
-- that it has just made in an empty slot
abbrev pub Opens : View → List Change → Type 0
Opens x [] = Unit {0}
Opens x (changes.Open n on ∷ []) = x.own.channels n ≡ Shut
Opens x (changes.Join n l write u y ∷ []) = x.own.channels n ≡ Shut
Opens x (changes.Make s u y ∷ changes.Open n (opened.Usr r write) ∷ []) = (x.own.channels n ≡ Shut) × (x.outlines s ≡ None)
Opens x _ = ⊥

abbrev pub AllMake : Option CallName → List Change → Type 0
AllMake o [] = Unit {0}
AllMake o (c ∷ cs) = CanMake o c × AllMake o cs

-- the changes of a call
abbrev pub AllMade : View → Option CallName → List Change → Type 0
AllMade x o [] = Unit {0}
AllMade x (Some calls.Open) (c ∷ cs) = Opens x (c ∷ cs)
AllMade x o (c ∷ cs) = AllMake o (c ∷ cs)

-- the job is gone by LOGOUT alone, which informs its superior
abbrev pub Informs : Option CallName → Type 0
Informs (Some calls.Logout) = Unit {0}
Informs _ = ⊥

abbrev pub AllInform : List Change → Type 0
AllInform [] = Unit {0}
AllInform (changes.Inform s ∷ cs) = AllInform cs
AllInform (c ∷ cs) = ⊥

-- what a decision of the call makes
abbrev pub Makes : View → Option CallName → Decision → Type 0
Makes x o (Waits r) = Unit {0}
Makes x o (Goes cs h vs) = AllMade x o cs.items
Makes x o (Ends cs ss e) = AllMade x o cs.items
Makes x o (Gone cs) = Informs o × AllInform cs.items

told_informs : (o : Option ℕ) → AllInform (told_superior o)
told_informs (Some s) = tt
told_informs None = tt

module _ (x : View) (a : Ask) where
  -- SLEEP, DISMIS, USRVAR, LOGOUT and REALT
  sleep_makes : Makes x (Some calls.Sleep) (sleep x a)
  unfolding sleep
  sleep_makes =
      first_holds (Makes x (Some calls.Sleep)) (sleep_tests x a (input a 0) (place_of_input a 0)) (goes [] None (negated (x.clock + input a 0) ∷ []))
      (λ t. tt, (λ t. tt, (λ t. tt, (λ t. tt, (λ t. tt, (λ t. tt, tt)))))) (λ t. tt)

  dismissed_makes : (p w : ℕ) (r : Result Exit Fault) → Makes x (Some calls.Dismis) (dismissed_by x p w r)
  dismissed_makes p w (Ok e) = tt
  dismissed_makes p w (Err f) = tt

  dismiss_makes : (o : Option ℕ) → Makes x (Some calls.Dismis) (dismiss_at x a o)
  dismiss_makes (Some p) = dismissed_makes p (input a 0) (after_dismissal x.own.core x.own.job p)
  dismiss_makes None = tt

  set_makes : (y : Variable) (b : Bool) → Makes x (Some calls.Usrvar) (set_own x a y b)
  set_makes y true = tt
  set_makes y false = tt

  own_variable_makes : (o : Option Variable) → Makes x (Some calls.Usrvar) (own_variable x a o)
  own_variable_makes None = tt
  own_variable_makes (Some y) =
      by_test (Makes x (Some calls.Usrvar)) (has_input a 2 && not (by_oneself y)) (fails x a 0o22) (set_own x a y (has_input a 2)) (λ e. tt)
      (λ e. set_makes y (has_input a 2))

  set_other_makes : (s : ℕ) (y : Variable) (w : ℕ) (b : Bool) → AllMade x (Some calls.Usrvar) (set_other s y w b)
  set_other_makes s y w true = (tt, tt)
  set_other_makes s y w false = tt

  other_variable_makes : (s : ℕ) (write : Bool) (o : Option Variable) → Makes x (Some calls.Usrvar) (other_variable x a s write o)
  other_variable_makes s write None = tt
  other_variable_makes s write (Some y) =
      let cs = set_other s y (input a 2) (has_input a 2) in
      first_holds (Makes x (Some calls.Usrvar))
      (((has_input a 2 && not write) ⇒ fails x a 0o5) ∷ ((has_input a 2 && not (by_superior y)) ⇒ fails x a 0o22) ∷ [])
      (finishes x cs (out a.outputs.items (value_of_other s y x.other))) (λ e. tt, (λ e. tt, tt))
      (λ e. set_other_makes s y (input a 2) (has_input a 2))

  usrvar_makes : Makes x (Some calls.Usrvar) (usrvar x a)
  unfolding usrvar
  usrvar_makes = go (is_oneself (input a 0)) (channel_at x.own.channels (input a 0))
    where
      on_party : (c : Chan) → Makes x (Some calls.Usrvar) (usrvar_of x a (party_on c))
      on_party Shut = tt
      on_party (On s write at) = other_variable_makes s write (variable_named (input a 1))
      on_party _ = tt

      go : (b : Bool) (c : Chan) → Makes x (Some calls.Usrvar) (usrvar_of x a (if b then Oneself else party_on c))
      go true c = own_variable_makes (variable_named (input a 1))
      go false c = on_party c

  realt_makes : Makes x (Some calls.Realt) (realt x a)
  unfolding realt
  realt_makes =
      let n = input a 0 in
      first_holds (Makes x (Some calls.Realt)) ((is_negative n || nat_lt longest_period n) ⇒ fails x a 0o22 ∷ [])
      (finishes x (changes.Arm (alarm_of x.clock n) ∷ []) [])
      (λ t. tt, tt) (λ t. (tt, tt))

  -- OPEN
  tty_opens : Makes x (Some calls.Open) (opens x a)
  unfolding opens
  tty_opens =
      let control = unwrap_or a.control 0 in
      first_holds (Makes x (Some calls.Open)) (open_tests x a (input a 0) (input a 1) control)
      (finishes x (changes.Open (input a 0) (opens_on control) ∷ []) [])
      (λ e. tt, (λ e. tt, (λ e. tt, (λ e. tt, tt)))) (λ e. free_channel x.own.channels (input a 0) e.0)

  disk_opens : Makes x (Some calls.Open) (opens_disk x a)
  unfolding opens_disk
  disk_opens =
      let control = unwrap_or a.control 0 in
      first_holds (Makes x (Some calls.Open)) (disk_tests x a (input a 0) control)
      (finishes x (changes.Open (input a 0) (opens_as (is_output control) (input a 4) (input a 2) (input a 3)) ∷ []) [])
      (λ e. tt, (λ e. tt, (λ e. tt, tt))) (λ e. free_channel x.own.channels (input a 0) e.0)

  job_makes : (n u y : ℕ) (o : Option ℕ) → x.own.channels n ≡ Shut → least_free x.limit x.outlines ≡ o → Makes x (Some calls.Open) (makes_job x a n u y o)
  job_makes n u y (Some s) shut e = (shut, least_empty x.limit x.outlines s e)
  job_makes n u y None shut e = tt

  job_opens : (n u y : ℕ) (write : Bool) (o : Option ℕ) → x.own.channels n ≡ Shut → Makes x (Some calls.Open) (opens_job x a n u y write o)
  job_opens n u y write (Some s) shut = shut
  job_opens n u y write None shut =
      first_holds (Makes x (Some calls.Open)) (any_named x u y ⇒ fails x a 0o13 ∷ not write ⇒ fails x a 0o12 ∷ [])
      (makes_job x a n u y (least_free x.limit x.outlines))
      (λ e. tt, (λ e. tt, tt)) (λ e. job_makes n u y (least_free x.limit x.outlines) shut refl)

  usr_opens : Makes x (Some calls.Open) (opens_usr x a)
  unfolding opens_usr
  usr_opens =
      let control = unwrap_or a.control 0 in
      let named = inferior_named x (input a 2) (input a 3) in
      first_holds (Makes x (Some calls.Open)) (usr_tests x a (input a 0) control)
      (opens_job x a (input a 0) (input a 2) (input a 3) (control == 1) named) (λ e. tt, (λ e. tt, tt))
      (λ e. job_opens (input a 0) (input a 2) (input a 3) (control == 1) named (free_channel x.own.channels (input a 0) e.0))

  new_opens : (n : ℕ) (write : Bool) (u y : ℕ) (o : Option ℕ) → x.own.channels n ≡ Shut → Makes x (Some calls.Open) (makes_link x a n write u y o)
  new_opens n write u y (Some l) shut = shut
  new_opens n write u y None shut = tt

  end_opens : (n : ℕ) (write : Bool) (u y : ℕ) (o : Option ℕ) → x.own.channels n ≡ Shut → Makes x (Some calls.Open) (opens_end x a n write u y o)
  end_opens n write u y (Some l) shut =
      first_holds (Makes x (Some calls.Open)) (not (can_open write (x.links l)) ⇒ fails x a 0o24 ∷ []) (joins x n l write u y) (λ e. tt, tt) (λ e. shut)
  end_opens n write u y None shut = new_opens n write u y (least_free most_links x.links) shut

  link_opens : Makes x (Some calls.Open) (opens_link x a)
  unfolding opens_link
  link_opens =
      let control = unwrap_or a.control 0 in
      first_holds (Makes x (Some calls.Open)) (link_tests x a (input a 0) control)
      (opens_end x a (input a 0) (control == 1) (input a 2) (input a 3) (link_named x.links (input a 2) (input a 3)))
      (λ e. tt, (λ e. tt, tt))
      (λ e. end_opens (input a 0) (control == 1) (input a 2) (input a 3) (link_named x.links (input a 2) (input a 3))
      (free_channel x.own.channels (input a 0) e.0))

  open_makes : Makes x (Some calls.Open) (open_call x a)
  unfolding open_call
  open_makes = go (input a 1 == disk_device) (input a 1 == usr_device) (input a 1 == link_device)
    where
      go : (disk usr link : Bool) → Makes x (Some calls.Open) (open_by x a disk usr link)
      go true usr link = disk_opens
      go false true link = usr_opens
      go false false true = link_opens
      go false false false = tty_opens

  -- CLOSE
  draft_closes : (f : File) → Makes x (Some calls.Close) (closes_draft x a f)
  unfolding closes_draft
  draft_closes f =
      first_holds (Makes x (Some calls.Close)) (is_read f.names (channels_in x) ⇒ fails x a 0o11
      ∷ (not (has_file f.names x.files) && not (nat_lt (length x.files) most_files)) ⇒ fails x a 0o7 ∷ [])
      (finishes x (changes.Close (input a 0) ∷ []) []) (λ t. tt, (λ t. tt, tt)) (λ t. (tt, tt))

  close_makes : Makes x (Some calls.Close) (close_call x a)
  unfolding close_call
  close_makes = go (channel_at x.own.channels (input a 0))
    where
      go : (c : Chan) → Makes x (Some calls.Close) (close_on x a c)
      go Shut = tt
      go (Writes f) = draft_closes f
      go (Linked l write) = (tt, tt)
      go TtyIn = (tt, tt)
      go TtyOut = (tt, tt)
      go (Reads f at) = (tt, tt)
      go (On s write at) = (tt, tt)

  -- `.IOT`
  read_moves : (e n at : ℕ) (o : Option ℕ) → Makes x (Some calls.Iot) (iot_read x e n at o)
  read_moves e n at (Some w) = (tt, tt)
  read_moves e n at None = tt

  peeks_moves : (e n at : ℕ) (ended : Bool) (o : Option ℕ) → Makes x (Some calls.Iot) (iot_peeks x e n at ended o)
  peeks_moves e n at true o = tt
  peeks_moves e n at false (Some w) = (tt, tt)
  peeks_moves e n at false None = tt

  through_moves : (e n s : ℕ) (write : Bool) (at : ℕ) → Makes x (Some calls.Iot) (iot_through x e n s write at)
  through_moves e n s false at =
      first_holds (Makes x (Some calls.Iot)) (store_tests x e) (iot_peeks x e n at (at_end at) (word_at (other_core x) at)) (λ t. tt, (λ t. tt, tt))
      (λ t. peeks_moves e n at (at_end at) (word_at (other_core x) at))
  through_moves e n s true at =
      first_holds (Makes x (Some calls.Iot)) (read_tests x e ++ (at_end at ⇒ ioc x ∷ not (can_store (other_core x) at) ⇒ ioc x ∷ []))
      (iot_ends x (changes.Poke s at (word_of x e) ∷ changes.Move n (at + 1) ∷ []) []) (λ t. tt, (λ t. tt, (λ t. tt, tt))) (λ t. (tt, (tt, tt)))

  receives_moves : (e l : ℕ) (ws : List ℕ) → Makes x (Some calls.Iot) (iot_receive x e l ws)
  receives_moves e l (w ∷ ws) = (tt, tt)
  receives_moves e l [] = tt

  iot_makes : Makes x (Some calls.Iot) (iot_call x a)
  unfolding iot_call
  iot_makes = go (channel_at x.own.channels (input a 0))
    where
      e : ℕ
      e = slice_index_or a.outputs.items 0 0

      n : ℕ
      n = input a 0

      i : ℕ
      i = view_console x

      go : (c : Chan) → Makes x (Some calls.Iot) (iot_on x e n c)
      go Shut = tt
      go TtyIn =
          first_holds (Makes x (Some calls.Iot)) (store_tests x e ++ (input_waits x i ⇒ Waits (Input i) ∷ []))
          (iot_ends x (changes.Take i ∷ []) (record { at = e; word = first_typed x i } ∷ []))
          (λ t. tt, (λ t. tt, (λ t. tt, tt))) (λ t. (tt, tt))
      go TtyOut =
          first_holds (Makes x (Some calls.Iot)) (read_tests x e ++ (output_waits x i ⇒ Waits (Output i) ∷ []))
          (iot_ends x (changes.Put i (shown_byte (word_of x e)) ∷ []) [])
          (λ t. tt, (λ t. tt, tt)) (λ t. (tt, tt))
      go (Reads f at) =
          first_holds (Makes x (Some calls.Iot)) (store_tests x e) (iot_read x e n at (slice_get (words_of x f) at))
          (λ t. tt, (λ t. tt, tt)) (λ t. read_moves e n at (slice_get (words_of x f) at))
      go (Writes f) =
          first_holds (Makes x (Some calls.Iot)) (read_tests x e ++ (is_full x.files (channels_in x) f.words ⇒ ioc x ∷ []))
          (iot_ends x (changes.Append n (word_of x e) ∷ []) [])
          (λ t. tt, (λ t. tt, tt)) (λ t. (tt, tt))
      go (On s write at) = through_moves e n s write at
      go (Linked l true) =
          first_holds (Makes x (Some calls.Iot)) (read_tests x e
          ++ (is_unread (x.links l) ⇒ ioc x ∷ is_crowded (x.links l) ⇒ Waits (Room l) ∷ [])) (iot_ends x (changes.Send l (word_of x e) ∷ []) [])
          (λ t. tt, (λ t. tt, (λ t. tt, tt))) (λ t. (tt, tt))
      go (Linked l false) =
          first_holds (Makes x (Some calls.Iot)) (store_tests x e ++ (is_dry (x.links l) ⇒ Waits (Empty l) ∷ [])) (iot_receive x e l (words_in (x.links l)))
          (λ t. tt, (λ t. tt, (λ t. tt, tt))) (λ t. receives_moves e l (words_in (x.links l)))

  -- SIOT
  by_siot : (words ended : Bool) (d : Decision) → Makes x (Some calls.Siot) d → Makes x (Some calls.Siot) (siot_by x a words ended d)
  by_siot words ended d h =
      first_holds (Makes x (Some calls.Siot)) (siot_tests x a (input a 1) (input a 2) words ended) d
      (λ t. tt, (λ t. tt, (λ t. tt, (λ t. tt, (λ t. tt, (λ t. tt, (λ t. tt, (λ t. tt, tt)))))))) (λ t. h)

  siot_makes : Makes x (Some calls.Siot) (siot_call x a)
  unfolding siot_call
  siot_makes = go (channel_at x.own.channels (input a 0))
    where
      n : ℕ
      n = input a 0

      next : ℕ
      next = next_pointer (input a 1)

      k : ℕ
      k = input a 2

      i : ℕ
      i = view_console x

      peeks : (at : ℕ) (o : Option ℕ) → Makes x (Some calls.Siot) (siot_peeks x a next k n at o)
      peeks at (Some w) =
          first_holds (Makes x (Some calls.Siot)) (store_tests x (right_of next))
          (goes (changes.Move n (at + 1) ∷ []) (Some (record { place = right_of next; byte = w })) (next ∷ (k - 1) ∷ []))
          (λ t. tt, (λ t. tt, tt)) (λ t. (tt, tt))
      peeks at None = first_holds (Makes x (Some calls.Siot)) (store_tests x (right_of next)) (fails x a 0o16) (λ t. tt, (λ t. tt, tt)) (λ t. tt)

      go : (c : Chan) → Makes x (Some calls.Siot) (siot_on x a n c)
      go Shut = tt
      go TtyIn =
          by_siot false false (siot_in x a next k i)
          (first_holds (Makes x (Some calls.Siot)) (store_tests x (right_of next) ++ (input_waits x i ⇒ Waits (Input i) ∷ []))
          (goes (changes.Take i ∷ []) (Some (record { place = right_of next; byte = first_typed x i })) (next ∷ (k - 1) ∷ []))
          (λ t. tt, (λ t. tt, (λ t. tt, tt))) (λ t. (tt, tt)))
      go TtyOut =
          by_siot false false (siot_out x a next k i)
          (first_holds (Makes x (Some calls.Siot)) (read_tests x (right_of next) ++ (output_waits x i ⇒ Waits (Output i) ∷ []))
          (goes (changes.Put i (shown_byte (load_of next (word_of x (right_of next)))) ∷ []) None (next ∷ (k - 1) ∷ []))
          (λ t. tt, (λ t. tt, tt)) (λ t. (tt, tt)))
      go (Reads f at) =
          let w = unwrap_or (slice_get (words_of x f) at) 0 in
          by_siot true (not (is_some (slice_get (words_of x f) at))) (siot_read x next k n at w)
          (first_holds (Makes x (Some calls.Siot)) (store_tests x (right_of next))
          (goes (changes.Move n (at + 1) ∷ []) (Some (record { place = right_of next; byte = w })) (next ∷ (k - 1) ∷ []))
          (λ t. tt, (λ t. tt, tt)) (λ t. (tt, tt)))
      go (Writes f) =
          by_siot true false (siot_write x a next k n f)
          (first_holds (Makes x (Some calls.Siot)) (read_tests x (right_of next) ++ (is_full x.files (channels_in x) f.words ⇒ fails x a 0o10 ∷ []))
          (goes (changes.Append n (load_of next (word_of x (right_of next))) ∷ []) None (next ∷ (k - 1) ∷ []))
          (λ t. tt, (λ t. tt, tt)) (λ t. (tt, tt)))
      go (On s true at) =
          by_siot true (at_end at) (siot_pokes x a next k n s at)
          (first_holds (Makes x (Some calls.Siot)) (read_tests x (right_of next) ++ (not (can_store (other_core x) at) ⇒ fails x a 0o16 ∷ []))
          (goes (changes.Poke s at (load_of next (word_of x (right_of next))) ∷ changes.Move n (at + 1) ∷ []) None (next ∷ (k - 1) ∷ []))
          (λ t. tt, (λ t. tt, tt)) (λ t. (tt, (tt, tt))))
      go (On s false at) = by_siot true (at_end at) (siot_peeks x a next k n at (word_at (other_core x) at)) (peeks at (word_at (other_core x) at))
      go (Linked l true) =
          by_siot false false (siot_send x a next k l)
          (first_holds (Makes x (Some calls.Siot)) (read_tests x (right_of next)
          ++ (is_unread (x.links l) ⇒ fails x a 0o26 ∷ is_crowded (x.links l) ⇒ Waits (Room l) ∷ []))
          (goes (changes.Send l (load_of next (word_of x (right_of next))) ∷ []) None (next ∷ (k - 1) ∷ []))
          (λ t. tt, (λ t. tt, (λ t. tt, tt))) (λ t. (tt, tt)))
      go (Linked l false) =
          by_siot false (is_ended (x.links l)) (siot_receive x next k l)
          (first_holds (Makes x (Some calls.Siot)) (store_tests x (right_of next) ++ (is_dry (x.links l) ⇒ Waits (Empty l) ∷ []))
          (goes (changes.Receive l ∷ []) (Some (record { place = right_of next; byte = first_word x l })) (next ∷ (k - 1) ∷ []))
          (λ t. tt, (λ t. tt, (λ t. tt, tt))) (λ t. (tt, tt)))

  -- FINISH, LISTEN and TTYLND
  finish_makes : Makes x (Some calls.Finish) (finish x a)
  unfolding finish
  finish_makes = go (channel_at x.own.channels (input a 0))
    where
      go : (c : Chan) → Makes x (Some calls.Finish) (finish_on x a c)
      go TtyOut =
          first_holds (Makes x (Some calls.Finish)) (output_left x (view_console x) ⇒ Waits (Drained (view_console x)) ∷ [])
          (finishes x [] []) (λ t. tt, tt) (λ t. tt)
      go Shut = tt
      go _ = tt

  listen_makes : Makes x (Some calls.Listen) (listen x a)
  unfolding listen
  listen_makes = go (channel_at x.own.channels (input a 0))
    where
      hears : Makes x (Some calls.Listen) (listens x a (view_console x))
      hears =
          first_holds (Makes x (Some calls.Listen)) (output_left x (view_console x) ⇒ Waits (Drained (view_console x)) ∷ [])
          (finishes x [] (out a.outputs.items (length (x.consoles (view_console x)).input))) (λ t. tt, tt) (λ t. tt)

      go : (c : Chan) → Makes x (Some calls.Listen) (listen_on x a c)
      go TtyIn = hears
      go TtyOut = hears
      go Shut = tt
      go _ = tt

  lands_makes : (may : Bool) (number s : ℕ) → Makes x (Some calls.Ttylnd) (lands x a may number s)
  lands_makes may number s =
      first_holds (Makes x (Some calls.Ttylnd)) (not (has_console x) ⇒ fails x a 0o5 ∷ not may ⇒ fails x a number ∷ [])
      (finishes x (changes.Hold (view_console x) s ∷ []) [])
      (λ e. tt, (λ e. tt, tt)) (λ e. (tt, tt))

  ttylnd_makes : Makes x (Some calls.Ttylnd) (ttylnd x a)
  unfolding ttylnd
  ttylnd_makes = go (is_oneself (input a 0)) (channel_at x.own.channels (input a 0))
    where
      on_party : (c : Chan) → Makes x (Some calls.Ttylnd) (ttylnd_of x a (party_on c))
      on_party Shut = tt
      on_party (On s write at) = lands_makes (is_holder x (x.holders (view_console x))) 0o5 s
      on_party _ = tt

      go : (b : Bool) (c : Chan) → Makes x (Some calls.Ttylnd) (ttylnd_of x a (if b then Oneself else party_on c))
      go true c = lands_makes (can_take x (x.holders (view_console x))) 0o13 x.slot
      go false c = on_party c

  -- ACCESS, FILLEN, DELETE and RENAME
  access_to_makes : (most : ℕ) → Makes x (Some calls.Access) (access_to x a most)
  access_to_makes most =
      first_holds (Makes x (Some calls.Access)) (nat_lt most (input a 1) ⇒ fails x a 0o22 ∷ [])
      (finishes x (changes.Move (input a 0) (input a 1) ∷ []) []) (λ t. tt, tt) (λ t. (tt, tt))

  access_makes : Makes x (Some calls.Access) (access x a)
  unfolding access
  access_makes = go (channel_at x.own.channels (input a 0))
    where
      go : (c : Chan) → Makes x (Some calls.Access) (access_on x a c)
      go (Reads f at) = access_to_makes (length (words_of x f))
      go (On s write at) = access_to_makes end_of_core
      go Shut = tt
      go _ = tt

  fillen_makes : Makes x (Some calls.Fillen) (fillen x a)
  unfolding fillen
  fillen_makes = go (channel_at x.own.channels (input a 0))
    where
      go : (c : Chan) → Makes x (Some calls.Fillen) (fillen_on x a c)
      go (Reads f at) = tt
      go (Writes f) = tt
      go Shut = tt
      go _ = tt

  delete_makes : Makes x (Some calls.Delete) (delete x a)
  unfolding delete
  delete_makes =
      first_holds (Makes x (Some calls.Delete)) (file_tests x a (names_from a 1)) (finishes x (changes.Delete (input a 3) (input a 1) (input a 2) ∷ []) [])
      (λ t. tt, (λ t. tt, (λ t. tt, tt))) (λ t. (tt, tt))

  rename_makes : Makes x (Some calls.Rename) (rename x a)
  unfolding rename
  rename_makes =
      first_holds (Makes x (Some calls.Rename)) (file_tests x a (names_from a 1)
      ++ (has_file (names_of (input a 3) (input a 4) (input a 5)) x.files ⇒ fails x a 0o23 ∷ []))
      (finishes x (changes.Rename (input a 3) (input a 1) (input a 2) (input a 4) (input a 5) ∷ []) [])
      (λ t. tt, (λ t. tt, (λ t. tt, (λ t. tt, tt)))) (λ t. (tt, tt))

  -- USRMEM, UCLOSE and CORBLK
  set_word_makes : (s p w : ℕ) (new : Bool) → AllMade x (Some calls.Usrmem) (set_word s p w new)
  set_word_makes s p w true = (tt, tt)
  set_word_makes s p w false = tt

  usrmem_makes : Makes x (Some calls.Usrmem) (usrmem x a)
  unfolding usrmem
  usrmem_makes = go (channel_at x.own.channels (input a 0))
    where
      go : (c : Chan) → Makes x (Some calls.Usrmem) (usrmem_on x a c)
      go (On s write at) =
          first_holds (Makes x (Some calls.Usrmem)) (usrmem_tests x a write (input a 1) (has_input a 2))
          (finishes x (set_word s (input a 1) (input a 2) (has_input a 2)) (out a.outputs.items (unwrap_or (word_at (other_core x) (input a 1)) 0)))
          (λ t. tt, (λ t. tt, (λ t. tt, (λ t. tt, tt)))) (λ t. set_word_makes s (input a 1) (input a 2) (has_input a 2))
      go Shut = tt
      go _ = tt

  uclose_makes : Makes x (Some calls.Uclose) (uclose x a)
  unfolding uclose
  uclose_makes = go (channel_at x.own.channels (input a 0))
    where
      go : (c : Chan) → Makes x (Some calls.Uclose) (uclose_on x a c)
      go (On s write at) = (tt, tt)
      go Shut = tt
      go _ = tt

  pages_make : (op s k : ℕ) (c : Core) → Makes x (Some calls.Corblk) (pages_of x a op s c k)
  pages_make op s k c =
      first_holds (Makes x (Some calls.Corblk)) (page_tests x a op c k) (finishes x (page_changed op s k ∷ []) []) (λ t. tt, (λ t. tt, (λ t. tt, tt)))
      (λ t. (page_by (CanMake (Some calls.Corblk)) op s k tt (λ e. tt) tt, tt))

  corblk_makes : Makes x (Some calls.Corblk) (corblk x a)
  unfolding corblk
  corblk_makes =
      first_holds (Makes x (Some calls.Corblk)) (nat_lt highest_operation (input a 0) ⇒ fails x a 0o22 ∷ [])
      (corblk_of x a (if is_oneself (input a 1) then Oneself else party_on (channel_at x.own.channels (input a 1)))) (λ t. tt, tt)
      (λ t. go (is_oneself (input a 1)) (channel_at x.own.channels (input a 1)))
    where
      on_party : (c : Chan) → Makes x (Some calls.Corblk) (corblk_of x a (party_on c))
      on_party Shut = tt
      on_party (On s true at) = pages_make (input a 0) s (input a 2) (other_core x)
      on_party _ = tt

      go : (b : Bool) (c : Chan) → Makes x (Some calls.Corblk) (corblk_of x a (if b then Oneself else party_on c))
      go true c = pages_make (input a 0) x.slot (input a 2) x.own.core
      go false c = on_party c

  -- every call, by its name
  pub call_makes : (o : Option CallName) → Makes x o (decided_by x a o)
  unfolding dismiss
  call_makes (Some calls.Hang) = tt
  call_makes (Some calls.Sleep) = sleep_makes
  call_makes (Some calls.Dismis) = dismiss_makes (place_of_input a 0)
  call_makes (Some calls.Usrvar) = usrvar_makes
  call_makes (Some calls.Logout) = (tt, told_informs x.own.superior)
  call_makes (Some calls.Open) = open_makes
  call_makes (Some calls.Close) = close_makes
  call_makes (Some calls.Iot) = iot_makes
  call_makes (Some calls.Siot) = siot_makes
  call_makes (Some calls.Finish) = finish_makes
  call_makes (Some calls.Listen) = listen_makes
  call_makes (Some calls.Ttylnd) = ttylnd_makes
  call_makes (Some calls.Access) = access_makes
  call_makes (Some calls.Fillen) = fillen_makes
  call_makes (Some calls.Delete) = delete_makes
  call_makes (Some calls.Rename) = rename_makes
  call_makes (Some calls.Usrmem) = usrmem_makes
  call_makes (Some calls.Uclose) = uclose_makes
  call_makes (Some calls.Corblk) = corblk_makes
  call_makes (Some calls.Realt) = realt_makes
  call_makes None = tt

  pub decision_makes : Makes x (call_named a.name) (decided x a)
  unfolding decided
  decision_makes =
      let o = call_named a.name in
      by_test (Makes x o) (a.fail == 0) (decided_by x a o) (fails x a a.fail) (λ e. call_makes o) (λ e. tt)

-- A call whose word is at the PC, and whose address is its right half.
use Rattle.std.proofs.Common.{◌≡◌, ℕ, zero, suc, false, [], ◌∷◌, ◌++◌, Some, None, Ok, arith, refl, sym, ◌∙◌, ap}
use Rattle.its_word.specs.Address.{address, calculation, index_of, index_places, indexed, is_indirect, last_used}
use Rattle.its_word.specs.Core.{Core}
use Rattle.its_word.specs.Opcode.{ac_of}
use Rattle.its_word.specs.Word.{right_of}
use Rattle.its_word.specs.declared.instruction.Instruction.{Instruction}
use Rattle.its_word.specs.declared.instruction.Instruction.TheVariants.{Iot, Call}
use Rattle.its_records.specs.declared.jobs.Job.{Job}
use Rattle.its_word.proofs.AddressLaws.{direct_answer, direct_used}
use Rattle.its_plain.specs.Unit.Trace.{also, located, word}
use Rattle.its_plain.specs.Unit.Plans.{read_of}
use Rattle.its_plain.specs.Unit.{Called, context_of, decoded, chain_step, chain_step_at, unit}
use Rattle.pdp_exec.specs.Ready.{leads_on}
use Rattle.pdp_exec.proofs.ChainLaws.{Ended, along_found, along_start, plain_step, step_plain, unit_call, unit_iot}

-- of an address word without X and I no place is read, and its right half is the address
no_places : (n : ℕ) (c : Core) (w : ℕ) → is_indirect w ≡ false → index_of w ≡ 0 → (calculation n c w None).reads ≡ []
unfolding calculation index_places
no_places zero c w i x = rw (i, x) refl
no_places (suc n) c w i x = rw (i, x) refl

right_answer : (c : Core) (w : ℕ) → is_indirect w ≡ false → index_of w ≡ 0 → (address c w 0).answer ≡ Ok (record { e = right_of w; flags_word = None })
unfolding indexed last_used
right_answer c w i x = direct_answer c w 0 i ∙ (rw (x) refl)

-- the walk to the instruction
no_step_places : (c : Core) (j : Job) (w : ℕ) (i : Instruction) → decoded w ≡ Ok i → leads_on i ≡ false → is_indirect w ≡ false
    → index_of w ≡ 0 → (chain_step c j w 0).reads ≡ []
unfolding chain_step also located
no_step_places c j w i d p n x =
    let at = context_of j w (record { e = right_of w; flags_word = None }) (address c w 0).used in
    rw (d, right_answer c w n x) (ap (λ xs. xs ++ (chain_step_at c i at).reads) (no_places 64 c w n x) ∙ ap (λ m. m.reads) (step_plain c i at p))

near_ended : (c : Core) (j : Job) (w : ℕ) (i : Instruction) → read_of c j.pc ≡ Ok w → decoded w ≡ Ok i → leads_on i ≡ false
    → is_indirect w ≡ false → index_of w ≡ 0
    → Ended c j (Ok (record { instruction = i; context = context_of j w (record { e = right_of w; flags_word = None }) (address c w 0).used })) (j.pc ∷ [])
unfolding word
near_ended c j w i r d p n x =
    let s = along_start c j w [] (j.pc ∷ []) refl (sym r) refl in
    along_found c j 0 w 0 (j.pc ∷ []) (j.pc ∷ []) _ s (omega arith) (sym (plain_step c j w i _ d p (right_answer c w n x)))
    (ap (λ xs. j.pc ∷ xs) (sym (no_step_places c j w i d p n x)))

pub near_iot : (c : Core) (j : Job) (w x e a : ℕ) → read_of c j.pc ≡ Ok w → is_indirect w ≡ false → x ≡ index_of w → x ≡ 0
    → decoded w ≡ Ok Iot → e ≡ right_of w → a ≡ ac_of w
    → unit c j ≡ Called (record { pc = j.pc; e = e; channel = Some a; used = 0; decode = record { items = j.pc ∷ [] } })
near_iot c j w x e a r n is none d ee aa =
    let h = near_ended c j w Iot r d refl n (sym is ∙ none) in
    unit_iot c j _ _ (j.pc ∷ []) h.answer_is h.places_is refl refl
    ∙ (λ t. Called (record {
      pc = j.pc;
      e = sym ee t;
      channel = Some (sym aa t);
      used = direct_used c w 0 n (omega arith) t;
      decode = record { items = j.pc ∷ [] };
    }))

pub near_call : (c : Core) (j : Job) (w x e : ℕ) → read_of c j.pc ≡ Ok w → is_indirect w ≡ false → x ≡ index_of w → x ≡ 0
    → decoded w ≡ Ok Call → e ≡ right_of w
    → unit c j ≡ Called (record { pc = j.pc; e = e; channel = None; used = 0; decode = record { items = j.pc ∷ [] } })
near_call c j w x e r n is none d ee =
    let h = near_ended c j w Call r d refl n (sym is ∙ none) in
    unit_call c j _ _ (j.pc ∷ []) h.answer_is h.places_is refl refl
    ∙ (λ t. Called (record { pc = j.pc; e = sym ee t; channel = None; used = direct_used c w 0 n (omega arith) t; decode = record { items = j.pc ∷ [] } }))

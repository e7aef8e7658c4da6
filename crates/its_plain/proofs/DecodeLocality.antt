-- The locality of the way to an instruction, and of the block and the arguments of a call.
use Rattle.std.proofs.Common.{◌+◌, ◌%◌, ◌^◌, ℕ, zero, suc, Bool, true, false, List, [], ◌∷◌, ◌++◌, Ok, Err, inl, inr, nat_lt}
use Rattle.std.proofs.lemmas.Bool.{cases_Bool}
use Rattle.its_word.specs.ArrayVec.{ArrayVec}
use Rattle.its_word.specs.Word.{pair_of}
use Rattle.its_word.specs.Core.{Core}
use Rattle.its_word.specs.Limits.{budget}
use Rattle.its_word.specs.declared.access.Fault.TheVariants.{Ilo}
use Rattle.its_records.specs.declared.calls.Arg.{Arg}
use Rattle.its_records.specs.declared.calls.Arg.TheVariants.{Input, Output, ErrorAt, Control}
use Rattle.its_records.specs.declared.calls.Kind.{Kind}
use Rattle.its_records.specs.declared.calls.Kind.TheVariants as kinds
use Rattle.its_records.specs.declared.calls.Site.{Site}
use Rattle.its_records.specs.declared.calls.Source.TheVariants.{Held, Immediate}
use Rattle.its_word.specs.declared.instruction.Instruction.{Instruction}
use Rattle.its_word.specs.declared.instruction.Instruction.TheVariants.{Xct}
use Rattle.its_records.specs.declared.jobs.Job.{Job}
use Rattle.its_word.specs.declared.plan.Context.{Context}
use Rattle.its_word.specs.declared.plan.ChainStep.{ChainStep}
use Rattle.its_word.specs.declared.plan.ChainStep.TheVariants.{Found, Target}
use Rattle.its_plain.specs.Unit.Trace.{Traced, also, gives, located, plainly, word}
use Rattle.its_plain.specs.Unit.{chain, context_of, decoded, followed, reached, target_of, chain_step, chain_step_at}
use Rattle.its_plain.specs.Call.Decode.{Shape, argument, argument_at, argument_words, arguments, block_at, checked, has_bit_0, held, is_legal, kind_of, parsed, shaped, storable, up_to_last, words_of}
use Rattle.its_plain.proofs.Locality.{Local, local_also, local_held, local_located, local_plainly, local_storable, local_word}

-- the way to an instruction
local_target : (x : Context) → Local (λ c. target_of c x)
unfolding target_of
local_target x = elim (cases_Bool (nat_lt x.used budget)) [
  | inl t ↦ rw t (local_also (λ c. word c x.e) (λ w c. gives (Target w (x.used + 1))) (local_word x.e) (λ w. local_plainly (Ok (Target w (x.used + 1)))))
  | inr t ↦ rw t (local_plainly (Err Ilo))
]

local_step_at : (i : Instruction) (x : Context) → Local (λ c. chain_step_at c i x)
unfolding chain_step_at
local_step_at Xct x = local_target x
local_step_at i x = local_plainly (Ok (Found (record { instruction = i; context = x })))

local_step : (j : Job) (w used : ℕ) → Local (λ c. chain_step c j w used)
unfolding chain_step
local_step j w used =
    local_also (λ c. plainly (decoded w)) (λ i c. also (located c w used) (λ f. chain_step_at c i (context_of j w f.at f.used)))
    (local_plainly (decoded w))
    (λ i. local_also (λ c. located c w used) (λ f c. chain_step_at c i (context_of j w f.at f.used)) (local_located w used)
    (λ f. local_step_at i (context_of j w f.at f.used)))

local_followed : (rest : ℕ → ℕ → Core → Traced _) → ((v k : ℕ) → Local (rest v k)) → (t : ChainStep) → Local (λ c. followed (λ v k. rest v k c) t)
local_followed rest h (Found r) = local_plainly (Ok r)
local_followed rest h (Target w used) = h w used

local_chain : (n : ℕ) (j : Job) (w used : ℕ) → Local (λ c. chain n c j w used)
unfolding chain
local_chain zero j w used = local_plainly (Err Ilo)
local_chain (suc n) j w used =
    local_also (λ c. chain_step c j w used) (λ t c. followed (λ v k. chain n c j v k) t) (local_step j w used)
    (λ t. local_followed (λ v k c. chain n c j v k) (λ v k. local_chain n j v k) t)

pub local_reached : (j : Job) → Local (λ c. reached c j)
unfolding reached
local_reached j =
    local_also (λ c. word c j.pc) (λ w c. chain (budget + 1) c j w 0) (local_word j.pc) (λ w. local_chain (budget + 1) j w 0)

-- the block
local_up_to_last : (b : Bool) (rest : List ℕ → Core → Traced (ArrayVec ℕ)) (seen : List ℕ) → ((ws : List ℕ) → Local (rest ws))
    → Local (λ c. up_to_last b (λ ws. rest ws c) seen)
local_up_to_last true rest seen h = local_plainly (Ok (record { items = seen }))
local_up_to_last false rest seen h = h seen

local_argument_words : (n a : ℕ) (seen : List ℕ) → Local (λ c. argument_words n c a seen)
unfolding argument_words
local_argument_words zero a seen = local_plainly (Ok (record { items = seen }))
local_argument_words (suc n) a seen =
    local_also (λ c. word c (a % 2 ^ 18)) (λ w c. up_to_last (has_bit_0 w) (λ ws. argument_words n c (a + 1) ws) (seen ++ w ∷ [])) (local_word (a % 2 ^ 18))
    (λ w. local_up_to_last (has_bit_0 w) (λ ws c. argument_words n c (a + 1) ws) (seen ++ w ∷ []) (λ ws. local_argument_words n (a + 1) ws))

local_block_at : (e : ℕ) → Local (λ c. block_at c e)
unfolding block_at
local_block_at e =
    local_also (λ c. word c (e % 2 ^ 18)) (λ first c. also (word c ((e + 1) % 2 ^ 18))
    (λ name. argument_words 8 c (e + 2) (first ∷ name ∷ []))) (local_word (e % 2 ^ 18))
    (λ first. local_also (λ c. word c ((e + 1) % 2 ^ 18)) (λ name c. argument_words 8 c (e + 2) (first ∷ name ∷ []))
    (local_word ((e + 1) % 2 ^ 18)) (λ name. local_argument_words 8 (e + 2) (first ∷ name ∷ [])))

local_checked : (b : Bool) (block : ArrayVec ℕ) → Local (λ c. checked b block)
local_checked true block = local_plainly (Ok block)
local_checked false block = local_plainly (Err Ilo)

pub local_parsed : (e : ℕ) → Local (λ c. parsed c e)
unfolding parsed
local_parsed e = local_also (λ c. block_at c e) (λ block c. checked (is_legal block.items) block) (local_block_at e)
    (λ block. local_checked (is_legal block.items) block)

-- the arguments
local_argument_at : (k : Kind) (e : ℕ) → Local (λ c. argument_at k c e)
unfolding argument_at
local_argument_at kinds.Input e = local_also (λ c. held c e) (λ p c. gives (Input (Held p))) (local_held e) (λ p. local_plainly (Ok (Input (Held p))))
local_argument_at kinds.Immediate e = local_plainly (Ok (Input (Immediate (pair_of 0 e))))
local_argument_at kinds.Output e = local_also (λ c. storable c e) (λ p c. gives (Output p)) (local_storable e) (λ p. local_plainly (Ok (Output p)))
local_argument_at kinds.ErrorAt e = local_also (λ c. storable c e) (λ p c. gives (ErrorAt p)) (local_storable e) (λ p. local_plainly (Ok (ErrorAt p)))
local_argument_at kinds.Control e = local_also (λ c. held c e) (λ p c. gives (Control (Held p))) (local_held e) (λ p. local_plainly (Ok (Control (Held p))))
local_argument_at kinds.ImmediateControl e = local_plainly (Ok (Control (Immediate (pair_of 0 e))))
local_argument_at kinds.Other e = local_plainly (Err Ilo)

local_argument : (w used : ℕ) → Local (λ c. argument c w used)
unfolding argument
local_argument w used =
    local_also (λ c. located c w used) (λ f c. also (argument_at (kind_of w) c f.at.e)
    (λ x. gives (record { argument = x; used = f.used }))) (local_located w used)
    (λ f. local_also (λ c. argument_at (kind_of w) c f.at.e) (λ x c. gives (record { argument = x; used = f.used })) (local_argument_at (kind_of w) f.at.e)
    (λ x. local_plainly (Ok (record { argument = x; used = f.used }))))

pub local_arguments : (ws : List ℕ) (used : ℕ) (seen : List Arg) → Local (λ c. arguments ws c used seen)
unfolding arguments
local_arguments [] used seen = local_plainly (Ok (record { items = seen }))
local_arguments (w ∷ ws) used seen =
    local_also (λ c. argument c w used) (λ x c. arguments ws c x.used (seen ++ x.argument ∷ [])) (local_argument w used)
    (λ x. local_arguments ws x.used (seen ++ x.argument ∷ []))

pub local_shaped : (s : Site) → Local (λ c. shaped c s)
unfolding shaped
local_shaped s =
    local_also (λ c. parsed c s.e) (λ block c. also (arguments (words_of block.items) c s.used []) (λ xs. gives (shape block xs))) (local_parsed s.e)
    (λ block. local_also (λ c. arguments (words_of block.items) c s.used []) (λ xs c. gives (shape block xs))
    (local_arguments (words_of block.items) s.used [])
    (λ xs. local_plainly (Ok (shape block xs))))
  where
    shape : ArrayVec ℕ → ArrayVec Arg → Shape
    shape block xs = record { block = block.items; arguments = xs.items }

-- The line of an answer: "`refused N`, or `done HEX`, or for mail `taken HEX` or `discarded
-- role|phase|number|place HEX`", HEX the image after.
use Rattle.std.specs.Prelude.{cond, ℕ, List, [], ◌∷◌, ◌++◌}
use Rattle.rules.specs.declared.model.Refusal.{Refusal}
use Rattle.rules.specs.Numbers.{answer_number, refusal_number}
use Rattle.rules.specs.declared.model.Answer.{Answer}
use Rattle.rules.specs.declared.model.Cause.{Cause}
use Rattle.rules.specs.Answers.{is_refusal}
use Rattle.print.specs.Bytes.{bytes}
use Rattle.print.specs.Decimal.{decimal}
use Rattle.hexed.specs.Hex.{hex_of}
use Rattle.wait.specs.declared.model.Run.{Run}
use Rattle.std.specs.Prelude.{Option, Some, None, Result, Ok, Err}
use Rattle.answer.specs.declared.reply.Reply.{Reply}

abbrev pub cause_word : Cause → List ℕ
cause_word Cause.Role = bytes "role "
cause_word Cause.Phase = bytes "phase "
cause_word Cause.Number = bytes "number "
cause_word Cause.Place = bytes "place "

abbrev pub word_of : Answer → List ℕ
word_of Answer.Done = bytes "done "
word_of Answer.Taken = bytes "taken "
word_of (Answer.Discarded why) = bytes "discarded " ++ cause_word why
word_of (Answer.Refused why) = bytes "refused "

-- the answer a, and im the image after it
unfoldable pub answer_text : Answer → List ℕ → List ℕ
answer_text a im =
    word_of a ++ (cond (is_refusal a) (decimal (answer_number a)) (hex_of im) ++ (10 ∷ []))

-- a number of steps, and the image
abbrev pub used_text : ℕ → List ℕ → List ℕ
used_text used im = decimal used ++ (32 ∷ (hex_of im ++ (10 ∷ [])))

-- "`ran USED IMAGE`, `stopped N USED IMAGE` (N the refusal that stopped it) or `refused N`" (Q-9)
unfoldable pub run_text : Run → List ℕ → List ℕ
run_text (Run.Ran used) im = bytes "ran " ++ used_text used im
run_text (Run.Stopped why used) im =
    bytes "stopped " ++ (decimal (refusal_number why) ++ (32 ∷ used_text used im))
run_text (Run.Refused why) im = answer_text (Answer.Refused why) im

-- "`found NUMBER`, `none` or `refused N`" (Q-5): no image, for it stays
unfoldable pub found_text : Result (Option ℕ) Refusal → List ℕ
found_text (Ok (Some k)) = bytes "found " ++ (decimal k ++ (10 ∷ []))
found_text (Ok None) = bytes "none" ++ (10 ∷ [])
found_text (Err why) = answer_text (Answer.Refused why) []

abbrev pub reply_text : Reply → List ℕ → List ℕ
reply_text (Reply.Answer a) im = answer_text a im
reply_text (Reply.Run r) im = run_text r im
reply_text (Reply.Found w) im = found_text w

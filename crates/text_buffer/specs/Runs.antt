-- A run of the code: as a token, and its text.
-- Assumes nothing.
use Rattle.std.specs.Prelude.{ℕ, List}
use Rattle.rules.specs.Chart.{Token, token}
use Rattle.rules.specs.Reduced.{run}
use Rattle.rules.specs.Texts.{word}
use Rattle.text_buffer.specs.declared.run.Run.{Run}

abbrev pub run_token : Run → Token
run_token r = token r.class r.length r.starred

abbrev pub run_text : Run → List ℕ
run_text r = word (run r.class r.length r.starred)

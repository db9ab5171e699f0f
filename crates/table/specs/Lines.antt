-- The requests of a run and their answers.
use Rattle.std.specs.Prelude.{List, map, Option}
use Rattle.runs.specs.declared.requests.Answer.{Answer}
use Rattle.runs.specs.declared.requests.Request.{Request}
use Rattle.table.specs.declared.asked.Asked.{Asked}

abbrev pub request_of : Asked → Request
request_of asked = asked.request

abbrev pub answer_of : Asked → Option Answer
answer_of asked = asked.answer

abbrev pub requests_in : List Asked → List Request
requests_in asked = map request_of asked

abbrev pub answers_in : List Asked → List (Option Answer)
answers_in asked = map answer_of asked

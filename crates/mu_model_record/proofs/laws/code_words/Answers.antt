use Rattle.std.proofs.Common.{arith}
use Rattle.mu_model_record.proofs.CodeLemmas.{length-coded, coded-append, coded_is, content-coded, coded-content, ones_no_code, code_pairs, pair_of_code, length-content, get-content}
use Rattle.mu_model_record.proofs.laws.code_words.Goals as goal

pub returns-clause-read_back : goal.returns-clause-read_back
returns-clause-read_back c xs small = (coded_is xs small, content-coded xs)

pub returns-clause-coded : goal.returns-clause-coded
returns-clause-coded c word is = coded-content word is

pub returns-clause-length : goal.returns-clause-length
returns-clause-length c = length-coded

pub returns-clause-one_more : goal.returns-clause-one_more
returns-clause-one_more c xs x = coded-append xs _

pub returns-clause-pairs : goal.returns-clause-pairs
returns-clause-pairs c word n size = (λ is i lt. pair_of_code word i is (omega (arith, size, lt)), λ each. code_pairs word n size each)

pub returns-clause-content : goal.returns-clause-content
returns-clause-content c word n size = (length-content word n size, λ i lt. get-content word i n size lt)

pub returns-clause-no_pair : goal.returns-clause-no_pair
returns-clause-no_pair c word has is = ones_no_code word has is

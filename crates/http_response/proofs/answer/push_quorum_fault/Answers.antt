use Rattle.http_response.proofs.answer.push_quorum_fault.Goals as goal

pub returns-in-TooFew : goal.returns-in-TooFew
returns-in-TooFew c = rw c.in-TooFew.is c.push_line.ensures

pub returns-in-Unseen : goal.returns-in-Unseen
returns-in-Unseen c = rw c.in-Unseen.is c.push_line-in-Unseen.ensures

pub returns-in-Disagrees : goal.returns-in-Disagrees
returns-in-Disagrees c = rw c.in-Disagrees.is c.push_line-in-Disagrees.ensures

pub returns-in-TooLarge : goal.returns-in-TooLarge
returns-in-TooLarge c = rw c.in-TooLarge.is c.push_line-in-TooLarge.ensures

pub returns-in-BadVerdict : goal.returns-in-BadVerdict
returns-in-BadVerdict c = rw c.in-BadVerdict.is c.push_line-in-BadVerdict.ensures

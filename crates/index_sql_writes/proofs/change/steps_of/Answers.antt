use Rattle.index_sql_writes.proofs.Words.{inl, inr}
use Rattle.index_sql_writes.proofs.change.steps_of.Goals as goal

pub returns-in-AddUser : goal.returns-in-AddUser
returns-in-AddUser c = elim c.in-AddUser.is [ inl is ↦ rw is c.set_user.ensures | inr is ↦ rw is c.set_user.ensures ]

pub returns-in-OpenCase : goal.returns-in-OpenCase
returns-in-OpenCase c = elim c.in-OpenCase.is [ inl is ↦ rw is c.set_case.ensures | inr is ↦ rw is c.set_case.ensures ]

pub returns-in-Relinquish : goal.returns-in-Relinquish
returns-in-Relinquish c = elim c.in-Relinquish.is [ inl is ↦ rw is c.free.ensures | inr is ↦ rw is c.free.ensures ]

pub returns-in-CloseCase : goal.returns-in-CloseCase
returns-in-CloseCase c = elim c.in-CloseCase.is [ inl is ↦ rw is c.end_case.ensures | inr is ↦ rw is c.end_case.ensures ]

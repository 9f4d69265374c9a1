mod CallLaws
mod InputLaws

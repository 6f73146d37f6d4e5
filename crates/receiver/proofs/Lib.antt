mod InSession
